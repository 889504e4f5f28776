use Rattle.std.proofs.Common.{◌<ℤ◌, ◌≤ℤ◌, SFits, w64, inl, inr, arith, refl, sym, ◌∙◌}
use Rattle.std.proofs.lemmas.Int.{ints, to_z-of_z}
use Rattle.wsm_ring.specs.Ring.{IsFirstInRow, IsFirstFrom, IsFirstUntil, at_slot, row_of}
use Rattle.wsm_ring.proofs.Rings.{less_from, not_less_from}
use Rattle.wsm_ring.proofs.Scan.{first_behind, scan_found, scan_past, scan_until}
use Rattle.wsm_ring.proofs.walking.first_on.Goals as goal

pub returns-then-last-start : goal.returns-then-last-start
returns-then-last-start c =
    let fits : SFits w64 c.args.start = c.ranges.start in
    let last : SFits w64 c.args.last = c.ranges.last in
    let test : c.args.last <ℤ c.args.start = less_from _ _ (simp to_z-of_z at c.if-last-start.true) in
    record {
      first = λ i e at from. elim from [
        | inl less ↦ omega (arith, ints, less, test)
        | inr same ↦ omega (arith, ints, same.0, test)
      ];
      there = refl;
    }

pub returns-then-is_some : goal.returns-then-is_some
returns-then-is_some c =
    let fits : SFits w64 c.args.start = c.ranges.start in
    let last : SFits w64 c.args.last = c.ranges.last in
    let r = c.args.ring in let os = c.args.slots.now.slots in
    let o = at_slot os c.first_in_row-found.result in
    let row : IsFirstInRow os (row_of r c.args.start) c.args.start c.args.key r.keys o = rw (← c.requires.row) (simp to_z-of_z at c.first_in_row-found.ensures.first) in
    let some = c.first_in_row-found.ensures.there ∙ sym c.is_some.ensures ∙ c.if-is_some.true in
    let test : c.args.start ≤ℤ c.args.last = not_less_from _ _ (simp to_z-of_z at c.if-last-start.false) in
    let first : IsFirstFrom r os c.args.start c.args.key o = scan_found r os c.requires.can.all.placed c.args.start c.args.start c.args.key c.args.key o (inr (refl, omega arith)) (λ i e at from. from) row some in
    record { first = scan_until r os c.requires.can.all.placed c.args.start c.args.start c.args.last c.args.key c.args.key o first row some test; there = c.first_in_row-found.ensures.there }

pub returns : goal.returns
returns c =
    let fits : SFits w64 c.args.start = c.ranges.start in
    let last : SFits w64 c.args.last = c.ranges.last in
    let r = c.args.ring in let os = c.args.slots.now.slots in
    let o = at_slot os c.first_in_row-found.result in
    let row : IsFirstInRow os (row_of r c.args.start) c.args.start c.args.key r.keys o = rw (← c.requires.row) (simp to_z-of_z at c.first_in_row-found.ensures.first) in
    let none = c.first_in_row-found.ensures.there ∙ sym c.is_some.ensures ∙ c.if-is_some.false in
    let behind : IsFirstUntil r os c.args.start r.keys c.args.last (at_slot os c.first_until.result) = simp to_z-of_z at c.first_until.ensures.first in
    record { first = first_behind r os c.requires.can.all.placed c.args.start c.args.last c.args.key _ (scan_past r os c.requires.can.all.placed c.args.start c.args.key o row none) behind; there = c.first_until.ensures.there }
