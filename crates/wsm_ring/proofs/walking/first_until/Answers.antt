use Rattle.std.proofs.Common.{◌≡◌, ◌≤◌, ◌⊎◌, ℕ, pos, ◌+ℤ◌, ◌<ℤ◌, ◌≤ℤ◌, to_z, of_z, Some, SFits, w64, rules, refl, inl, inr, arith, sym, ◌∙◌}
use Rattle.std.proofs.lemmas.Int.{ints, to_z-of_z}
use Rattle.wsm_windows.specs.declared.place.Place.{Place}
use Rattle.wsm_ring.specs.Ring.{IsFirstInRow, IsFirstUntil, IsFromOn, IsOnGrid, at_slot, row_of}
use Rattle.wsm_slots.specs.Slots.{slot_at}
use Rattle.wsm_ring.proofs.Rings.{between_fits, le_from, lt_from, on_grid_next}
use Rattle.wsm_ring.proofs.Scan.{scan_found, scan_past, scan_until, scan_next, from_next, left_less}
use Rattle.wsm_ring.proofs.walking.first_until.Goals as goal

pub returns-then-is_some : goal.returns-then-is_some
returns-then-is_some c =
    let fits : SFits w64 c.args.start = c.ranges.start in
    let S = to_z w64 c.loop-start.start-bits in
    let row : IsFirstInRow c.args.slots.now.slots (row_of c.args.ring S) S c.loop-start.key c.args.ring.keys (at_slot c.args.slots.now.slots c.first_in_row-found.result) = rw c.row.ensures.row at c.first_in_row-found.ensures.first in
    let later : (c.args.start <ℤ S) ⊎ ((S ≡ c.args.start) × (c.args.key ≤ c.loop-start.key)) = simp to_z-of_z at c.loop-start.invariant.later in
    let left : (i : ℕ) (e : Place × _) → slot_at c.args.slots.now.slots i ≡ Some e → IsFromOn c.args.start c.args.key e.0 → IsFromOn S c.loop-start.key e.0 = simp to_z-of_z at c.loop-start.invariant.left in
    let last : SFits w64 c.args.last = c.ranges.last in
    let some = c.first_in_row-found.ensures.there ∙ sym c.is_some.ensures ∙ c.if-is_some.true in
    let test : S ≤ℤ c.args.last = le_from _ _ (simp to_z-of_z at c.loop-start-test.true) in
    let found = scan_found c.args.ring c.args.slots.now.slots c.requires.all.placed c.args.start S c.args.key c.loop-start.key (at_slot c.args.slots.now.slots c.first_in_row-found.result) later left row some in
    let whole : IsFirstUntil c.args.ring c.args.slots.now.slots c.args.start c.args.key c.args.last (at_slot c.args.slots.now.slots c.first_in_row-found.result) = scan_until c.args.ring c.args.slots.now.slots c.requires.all.placed c.args.start S c.args.last c.args.key c.loop-start.key (at_slot c.args.slots.now.slots c.first_in_row-found.result) found row some test in
    record { first = whole; there = c.first_in_row-found.ensures.there }

pub overflow_add-start : goal.overflow_add-start
overflow_add-start c =
    let period : SFits w64 c.args.ring.period = search rules in
    let last : SFits w64 c.args.last = c.ranges.last in
    let first : SFits w64 (to_z w64 c.loop-start.start-bits) = search rules in
    let test : to_z w64 c.loop-start.start-bits ≤ℤ c.args.last = le_from _ _ (simp to_z-of_z at c.loop-start-test.true) in
    let z : to_z w64 (of_z w64 c.args.ring.period) ≡ c.args.ring.period = to_z-of_z w64 c.args.ring.period period in
    rw z (between_fits (to_z w64 c.loop-start.start-bits) (to_z w64 c.loop-start.start-bits +ℤ c.args.ring.period) (c.args.last +ℤ c.args.ring.size) first c.requires.fits (omega (arith, ints, c.requires.all.ring.period_low)) (omega (arith, ints, c.requires.all.ring.period_high)))

pub loop-start-smaller : goal.loop-start-smaller
loop-start-smaller c =
    let period : SFits w64 c.args.ring.period = search rules in
    let last : SFits w64 c.args.last = c.ranges.last in
    let first : SFits w64 (to_z w64 c.loop-start.start-bits) = search rules in
    let test : to_z w64 c.loop-start.start-bits ≤ℤ c.args.last = le_from _ _ (simp to_z-of_z at c.loop-start-test.true) in
    let sum : SFits w64 (to_z w64 c.loop-start.start-bits +ℤ c.args.ring.period) = between_fits (to_z w64 c.loop-start.start-bits) (to_z w64 c.loop-start.start-bits +ℤ c.args.ring.period) (c.args.last +ℤ c.args.ring.size) first c.requires.fits (omega (arith, ints, c.requires.all.ring.period_low)) (omega (arith, ints, c.requires.all.ring.period_high)) in
    simp to_z-of_z (left_less (to_z w64 c.loop-start.start-bits) (to_z w64 c.loop-start.start-bits +ℤ c.args.ring.period) c.args.last test (omega (arith, ints, c.requires.all.ring.period_low)))

pub loop-start-preserved : goal.loop-start-preserved
loop-start-preserved c =
    let S = to_z w64 c.loop-start.start-bits in
    let fits : SFits w64 c.args.start = c.ranges.start in
    let period : SFits w64 c.args.ring.period = search rules in
    let last : SFits w64 c.args.last = c.ranges.last in
    let first : SFits w64 S = search rules in
    let test : S ≤ℤ c.args.last = le_from _ _ (simp to_z-of_z at c.loop-start-test.true) in
    let sum : SFits w64 (S +ℤ c.args.ring.period) = between_fits S (S +ℤ c.args.ring.period) (c.args.last +ℤ c.args.ring.size) first c.requires.fits (omega (arith, ints, c.requires.all.ring.period_low)) (omega (arith, ints, c.requires.all.ring.period_high)) in
    let row : IsFirstInRow c.args.slots.now.slots (row_of c.args.ring S) S c.loop-start.key c.args.ring.keys (at_slot c.args.slots.now.slots c.first_in_row-found.result) = rw c.row.ensures.row at c.first_in_row-found.ensures.first in
    let later : (c.args.start <ℤ S) ⊎ ((S ≡ c.args.start) × (c.args.key ≤ c.loop-start.key)) = simp to_z-of_z at c.loop-start.invariant.later in
    let left : (i : ℕ) (e : Place × _) → slot_at c.args.slots.now.slots i ≡ Some e → IsFromOn c.args.start c.args.key e.0 → IsFromOn S c.loop-start.key e.0 = simp to_z-of_z at c.loop-start.invariant.left in
    let grid : IsOnGrid c.args.ring S = c.loop-start.invariant.grid in
    let none = c.first_in_row-found.ensures.there ∙ sym c.is_some.ensures ∙ c.if-is_some.false in
    let z : to_z w64 (of_z w64 c.args.ring.period) ≡ c.args.ring.period = to_z-of_z w64 c.args.ring.period period in
    let zs : to_z w64 (of_z w64 (S +ℤ c.args.ring.period)) ≡ S +ℤ c.args.ring.period = to_z-of_z w64 (S +ℤ c.args.ring.period) sum in
    let z0 : to_z w64 (of_z w64 c.args.start) ≡ c.args.start = to_z-of_z w64 c.args.start fits in
    rw (z, zs, z0) (record {
      grid = (grid.0 +ℤ pos 1, on_grid_next grid.0 c.args.ring.period S c.requires.all.ring.period_low grid.1);
      later = inl (elim later [ inl less ↦ omega (arith, ints, less, c.requires.all.ring.period_low) | inr same ↦ omega (arith, ints, same.0, c.requires.all.ring.period_low) ]);
      left = λ i e at from. from_next c.args.ring c.args.slots.now.slots c.requires.all.placed (S +ℤ c.args.ring.period) e (scan_next c.args.ring c.args.slots.now.slots c.requires.all.placed c.requires.all.ring.period_low S grid i e at
          (scan_past c.args.ring c.args.slots.now.slots c.requires.all.placed S c.loop-start.key (at_slot c.args.slots.now.slots c.first_in_row-found.result) row none i e at (left i e at from)));
    })

pub returns : goal.returns
returns c =
    let fits : SFits w64 c.args.start = c.ranges.start in
    let last : SFits w64 c.args.last = c.ranges.last in
    let S = to_z w64 c.loop-start.start-bits in
    let test : c.args.last <ℤ S = lt_from _ _ (simp to_z-of_z at c.loop-start-test.false) in
    let left : (i : ℕ) (e : Place × _) → slot_at c.args.slots.now.slots i ≡ Some e → IsFromOn c.args.start c.args.key e.0 → IsFromOn S c.loop-start.key e.0 = simp to_z-of_z at c.loop-start.invariant.left in
    let none : (i : ℕ) (e : Place × _) → slot_at c.args.slots.now.slots i ≡ Some e → IsFromOn c.args.start c.args.key e.0 → c.args.last <ℤ e.0.start =
    λ i e at from. elim (left i e at from) [
      | inl less ↦ omega (arith, ints, less, test)
      | inr same ↦ omega (arith, ints, same.0, test)
    ] in
    record { first = none; there = refl }
