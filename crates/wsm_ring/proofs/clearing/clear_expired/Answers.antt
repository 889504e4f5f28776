use Rattle.std.proofs.Common.{◌≡◌, ◌⊎◌, ◌<◌, ◌≤◌, ◌+◌, ℕ, ℤ, pos, ◌+ℤ◌, ◌-ℤ◌, ◌<ℤ◌, ◌≤ℤ◌, Some, None, SFits, w64, to_z, of_z, rules, refl, inl, inr, arith, ◌∙◌}
use Rattle.std.specs.Int.{int_min}
use Rattle.std.specs.Option.{SomeIff}
use Rattle.std.proofs.lemmas.Int.{ints, to_z-of_z}
use Rattle.wsm_ring.specs.declared.ring.Ring.{Ring}
use Rattle.wsm_ring.specs.Ring.{kept_slot, row_of, AreInPlace, IsOnGrid}
use Rattle.wsm_slots.specs.Slots.{slot_at}
use Rattle.wsm_ring.proofs.Placed.{held_length, placed_less}
use Rattle.wsm_ring.proofs.Rings.{between_fits, le_from, lt_from, on_grid_next}
use Rattle.wsm_ring.proofs.Scan.{left_less}
use Rattle.wsm_ring.proofs.Clears.{AreDone, AreSince, done_old, done_more, since_more, all_done, past_either, min_within, none_ended}
use Rattle.wsm_ring.proofs.clearing.clear_expired.Goals as goal
use Rattle.wsm_ring.proofs.clearing.clear_expired.Goals.{In-loop-start}

pub loop-start-init : goal.loop-start-init
loop-start-init c =
    let z : to_z w64 (of_z w64 c.args.first) ≡ c.args.first = to_z-of_z w64 c.args.first c.ranges.first in
    rw z (record {
      cleared = record {
        widths = refl;
        size = refl;
        len = omega arith;
      };
      grid = c.requires.first;
      done = λ i. inr refl;
      since = λ i e at. (c.requires.between i e at).0;
    })

pub overflow_add-cleared : goal.overflow_add-cleared
overflow_add-cleared c =
    omega (arith, c.requires.all.slots, c.requires.all.ring.slots, c.loop-start.invariant.cleared.len, c.clear_row-cleared.ensures.cleared.len, held_length c.args.slots.now.slots)

-- the windows of the row of a turn end by the limit, so the next row's start fits
record Expires (r : Ring) (limit least start : ℤ) : Type 0 where
  fits : SFits w64 start
  from : start ≤ℤ least
  ends : (start +ℤ r.size) ≤ℤ limit
  next : SFits w64 (start +ℤ r.period)

expires : (c : In-loop-start) → Expires c.args.ring c.args.limit c.min-last.result (to_z w64 c.loop-start.start-bits)
expires c =
    let S = to_z w64 c.loop-start.start-bits in
    let limit : SFits w64 c.args.limit = c.ranges.limit in
    let last : SFits w64 c.args.last = c.ranges.last in
    let latest : SFits w64 c.in-Some.latest = search rules in
    let least : SFits w64 c.min-last.result = search rules in
    let size : SFits w64 c.args.ring.size = search rules in
    let first : SFits w64 S = search rules in
    let value : c.min-last.result ≡ int_min c.args.last c.in-Some.latest = simp to_z-of_z at c.min-last.ensures.value in
    let test : S ≤ℤ c.min-last.result = le_from _ _ (simp to_z-of_z at c.loop-start-test.true) in
    let within = min_within c.args.last c.in-Some.latest S (rw (← value) test) in
    let sub : SomeIff (Some c.in-Some.latest) (SFits w64 (c.args.limit -ℤ c.args.ring.size)) (c.args.limit -ℤ c.args.ring.size) = rw c.in-Some.is at (simp to_z-of_z at c.checked_sub.ensures) in
    record {
      fits = first;
      from = test;
      ends = omega (arith, ints, within.1, sub.1);
      next = between_fits S (S +ℤ c.args.ring.period) c.args.limit first limit (omega (arith, ints, c.requires.all.ring.period_low)) (omega (arith, ints, within.1, sub.1, c.requires.all.ring.period_high));
    }

pub overflow_add-start : goal.overflow_add-start
overflow_add-start c =
    let period : SFits w64 c.args.ring.period = search rules in
    let z : to_z w64 (of_z w64 c.args.ring.period) ≡ c.args.ring.period = to_z-of_z w64 c.args.ring.period period in
    rw z (expires (goal.at.overflow_add-start c).In-loop-start).next

pub loop-start-smaller : goal.loop-start-smaller
loop-start-smaller c =
    let S = to_z w64 c.loop-start.start-bits in
    let row = expires (goal.at.loop-start-smaller c).In-loop-start in
    let least : SFits w64 c.min-last.result = search rules in
    let period : SFits w64 c.args.ring.period = search rules in
    let first : SFits w64 S = row.fits in
    let sum : SFits w64 (S +ℤ c.args.ring.period) = row.next in
    simp to_z-of_z (left_less S (S +ℤ c.args.ring.period) c.min-last.result row.from (omega (arith, ints, c.requires.all.ring.period_low)))

pub loop-start-preserved : goal.loop-start-preserved
loop-start-preserved c =
    let S = to_z w64 c.loop-start.start-bits in
    let os = c.loop-start.slots.slots in
    let ns = c.clear_row-cleared.new.slots.slots in
    let old = c.args.slots.now.slots in
    let row = expires (goal.at.loop-start-preserved c).In-loop-start in
    let limit : SFits w64 c.args.limit = c.ranges.limit in
    let period : SFits w64 c.args.ring.period = search rules in
    let z : to_z w64 (of_z w64 c.args.ring.period) ≡ c.args.ring.period = to_z-of_z w64 c.args.ring.period period in
    let zl : to_z w64 (of_z w64 c.args.limit) ≡ c.args.limit = to_z-of_z w64 c.args.limit limit in
    let zs : to_z w64 (of_z w64 (S +ℤ c.args.ring.period)) ≡ S +ℤ c.args.ring.period = to_z-of_z w64 (S +ℤ c.args.ring.period) row.next in
    let grid : IsOnGrid c.args.ring S = c.loop-start.invariant.grid in
    let done : AreDone c.args.limit old os = rw zl at c.loop-start.invariant.done in
    let since : AreSince S os = c.loop-start.invariant.since in
    let placed : AreInPlace c.args.ring os = placed_less c.args.ring old os c.requires.all.placed (done_old c.args.limit old os done) in
    let inside : (i : ℕ) → row_of c.args.ring S ≤ i → i < row_of c.args.ring S + c.args.ring.keys → slot_at ns i ≡ kept_slot c.args.limit (slot_at os i) = rw (zl, c.row.ensures.row) at c.clear_row-cleared.ensures.inside in
    let outside : (i : ℕ) → (i < row_of c.args.ring S) ⊎ (row_of c.args.ring S + c.args.ring.keys ≤ i) → slot_at ns i ≡ slot_at os i = rw c.row.ensures.row at c.clear_row-cleared.ensures.outside in
    rw (z, zs, zl) (record {
      cleared = record {
        widths = c.clear_row-cleared.ensures.cleared.widths ∙ c.loop-start.invariant.cleared.widths;
        size = c.clear_row-cleared.ensures.cleared.size ∙ c.loop-start.invariant.cleared.size;
        len = omega (arith, c.loop-start.invariant.cleared.len, c.clear_row-cleared.ensures.cleared.len);
      };
      grid = (grid.0 +ℤ pos 1, on_grid_next grid.0 c.args.ring.period S c.requires.all.ring.period_low grid.1);
      done = done_more c.args.limit old os ns (row_of c.args.ring S) c.args.ring.keys done inside outside;
      since = since_more c.args.ring c.args.limit S os ns c.requires.all.ring.period_low placed grid row.ends since inside outside;
    })

pub returns-after-loop-start-clause-kept : goal.returns-after-loop-start-clause-kept
returns-after-loop-start-clause-kept c =
    let S = to_z w64 c.loop-start.start-bits in
    let os = c.loop-start.slots.slots in
    let old = c.args.slots.now.slots in
    let limit : SFits w64 c.args.limit = c.ranges.limit in
    let last : SFits w64 c.args.last = c.ranges.last in
    let latest : SFits w64 c.in-Some.latest = search rules in
    let least : SFits w64 c.min-last.result = search rules in
    let size : SFits w64 c.args.ring.size = search rules in
    let zl : to_z w64 (of_z w64 c.args.limit) ≡ c.args.limit = to_z-of_z w64 c.args.limit limit in
    let value : c.min-last.result ≡ int_min c.args.last c.in-Some.latest = simp to_z-of_z at c.min-last.ensures.value in
    let test : c.min-last.result <ℤ S = lt_from _ _ (simp to_z-of_z at c.loop-start-test.false) in
    let past = past_either c.args.last c.in-Some.latest S (rw (← value) test) in
    let sub : SomeIff (Some c.in-Some.latest) (SFits w64 (c.args.limit -ℤ c.args.ring.size)) (c.args.limit -ℤ c.args.ring.size) = rw c.in-Some.is at (simp to_z-of_z at c.checked_sub.ensures) in
    let done : AreDone c.args.limit old os = rw zl at c.loop-start.invariant.done in
    all_done c.args.limit old os done (λ i e at.
    let was = done_old c.args.limit old os done i e at in
    let from : S ≤ℤ e.0.start = c.loop-start.invariant.since i e at in
    let until = (c.requires.between i e was).1 in
    let end = (c.requires.all.placed i e was).0.end in
    elim past [
      | inl less ↦ absurd (omega (arith, ints, from, until, less))
      | inr less ↦ omega (arith, ints, from, less, sub.1, end)
    ])

pub returns-after-loop-start-clause-between : goal.returns-after-loop-start-clause-between
returns-after-loop-start-clause-between c =
    let os = c.loop-start.slots.slots in
    let old = c.args.slots.now.slots in
    let zl : to_z w64 (of_z w64 c.args.limit) ≡ c.args.limit = to_z-of_z w64 c.args.limit c.ranges.limit in
    let done : AreDone c.args.limit old os = rw zl at c.loop-start.invariant.done in
    λ i e at. (c.loop-start.invariant.since i e at, (c.requires.between i e (done_old c.args.limit old os done i e at)).1)

pub returns-in_default-clause-kept : goal.returns-in_default-clause-kept
returns-in_default-clause-kept c =
    let old = c.args.slots.now.slots in
    let limit : SFits w64 c.args.limit = c.ranges.limit in
    let size : SFits w64 c.args.ring.size = search rules in
    let none : c.checked_sub.result ≡ None = c.in_default.is in
    let sub : SomeIff {T = ℤ} None (SFits w64 (c.args.limit -ℤ c.args.ring.size)) (c.args.limit -ℤ c.args.ring.size) = rw none at (simp to_z-of_z at c.checked_sub.ensures) in
    all_done c.args.limit old old (λ i. inr refl) (λ i e at.
    none_ended c.args.limit c.args.ring.size c.args.first e.0.start e.0.end sub limit c.ranges.first (omega (arith, ints, c.requires.all.ring.period_low, c.requires.all.ring.period_high)) (c.requires.between i e at).0 (c.requires.all.placed i e at).0.end)

pub returns-in_default-clause-between : goal.returns-in_default-clause-between
returns-in_default-clause-between c =
    let z : to_z w64 (of_z w64 c.args.first) ≡ c.args.first = to_z-of_z w64 c.args.first c.ranges.first in
    rw z c.requires.between
