use Rattle.std.proofs.Common.{false, pos, ◌≡◌, ℤ, [], ◌∷◌, Fits, SFits, w16, w64, to_z, of_z, rules, refl, ap, ◌∙◌, ◌+ℤ◌, ◌-ℤ◌, ◌<ℤ◌, ◌≤ℤ◌, arith}
use Rattle.std.specs.FinMap as map
use Rattle.std.proofs.lemmas.Int.{ints, to_z-of_z}
use Rattle.std.specs.Prelude.{int_le}
use Rattle.wsm_windows.specs.Windows.{first_start, greatest_span, greatest_time, window}
use Rattle.wsm_semantics.specs.Replay.{datum}
use Rattle.wsm_ring.specs.declared.ring.Ring.{Ring}
use Rattle.wsm_ring.specs.Ring.{IsRing}
use Rattle.wsm_slots.proofs.Keys.{any_datum}
use Rattle.wsm_ring.proofs.InTurn.{admits_at, can_go_on, put_at_is, takes_at}
use Rattle.wsm_ring.proofs.Rings.{between_fits, le_from, row_within}
use Rattle.wsm_ring.proofs.Rows.{all_on, ending_past, few_on, first_on_grid, none_on, one_on, rising_on, windows_on}
use Rattle.wsm_ring.proofs.Scan.{left_less}
use Rattle.wsm_ring.proofs.entering.enter_each.Goals as goal
use Rattle.wsm_ring.proofs.entering.enter_each.Goals.{In-loop-row, After-loop-row}

pub loop-row-init : goal.loop-row-init
loop-row-init c =
    let time : SFits w64 c.args.time = c.ranges.time in
    let r = c.args.table.now.ring in
    let z : to_z w64 (of_z w64 c.args.time) ≡ c.args.time = to_z-of_z w64 c.args.time time in
    let y : to_z w64 (of_z w64 c.args.past) ≡ c.args.past = to_z-of_z w64 c.args.past c.ranges.past in
    let ring : IsRing r = c.requires.can.apart.ring in
    let start : c.first_row-row.result.start ≡ first_start r.size r.period c.args.past = rw y at c.first_row-row.ensures.start in
    let all : windows_on r c.args.time c.first_row-row.result.start ≡ ending_past r c.args.time c.args.past = all_on r c.args.time c.args.past c.first_row-row.result.start ring c.requires.after start in
    let grid = first_on_grid r.size r.period c.args.past ring.period_low in
    rw (z, y, c.ring-ring.ensures, c.first_row-row.ensures.same) (record {
      panes = rw all refl;
      can = rw all c.requires.can;
      rising = rw all (rising_on r c.args.time c.args.past ring c.requires.size);
      ring = refl;
      widths = refl;
      row = c.first_row-row.ensures.row;
      behind = omega (arith, ints, start, grid.behind, c.requires.after);
      count = rw all (omega arith);
    })

-- the ring, and the row of a turn, whose window has the time inside
record IsInRow (r : Ring) (time start : ℤ) : Type 0 where
  ring : IsRing r
  few : r.size ≤ℤ greatest_span
  fits : SFits w64 start
  inside : start ≤ℤ time

in_row : (c : In-loop-row) → IsInRow c.ring-ring.result (to_z w64 (of_z w64 c.args.time)) c.loop-row.row.start
in_row c =
    let start : SFits w64 c.loop-row.row.start = search rules in
    let same : to_z w64 (of_z w64 c.loop-row.row.start) ≡ c.loop-row.row.start = to_z-of_z w64 c.loop-row.row.start start in
    record {
      ring = rw c.ring-ring.ensures c.requires.can.apart.ring;
      few = rw c.ring-ring.ensures c.requires.size;
      fits = start;
      inside = le_from _ _ (rw same at c.loop-row-test.true);
    }

pub overflow_add-slot : goal.overflow_add-slot
overflow_add-slot c =
    let key : Fits w16 c.args.key = c.ranges.key in
    let ring = (in_row (goal.at.overflow_add-slot c).In-loop-row).ring in
    omega (arith, key, c.loop-row.invariant.row.slot, row_within c.ring-ring.result c.loop-row.row.start ring, ring.slots)

pub enter_at-requires : goal.enter_at-requires
enter_at-requires c =
    let time : SFits w64 c.args.time = c.ranges.time in
    let T = to_z w64 (of_z w64 c.args.time) in let r = c.ring-ring.result in let S = c.loop-row.row.start in
    let row = in_row (goal.at.enter_at-requires c).In-loop-row in
    let step : windows_on r T S ≡ window S (S +ℤ r.size) ∷ windows_on r T (S +ℤ r.period) = one_on r T S (S +ℤ r.period) row.ring row.inside refl in
    let can = rw step at c.loop-row.invariant.can in
    record {
      slot = search rules;
      wide = search rules;
      types = search rules;
      admits = admits_at c.loop-row.table.ring c.args.kinds.now c.args.values.now c.args.key T c.loop-row.table.panes (window S (S +ℤ r.size)) (windows_on r T (S +ℤ r.period)) c.place.result c.place.ensures can;
      takes = takes_at c.loop-row.table.ring c.args.kinds.now c.args.values.now c.args.key T c.loop-row.table.panes (window S (S +ℤ r.size)) (windows_on r T (S +ℤ r.period)) c.place.result c.place.ensures can;
    }

pub next_row-row-requires-clause-next : goal.next_row-row-requires-clause-next
next_row-row-requires-clause-next c =
    let time : SFits w64 c.args.time = c.ranges.time in
    let z : to_z w64 (of_z w64 c.args.time) ≡ c.args.time = to_z-of_z w64 c.args.time time in
    let r = c.ring-ring.result in let S = c.loop-row.row.start in
    let row = in_row (goal.at.next_row-row-requires-clause-next c).In-loop-row in
    let timely : c.args.time ≤ℤ greatest_time = c.requires.timely.high in
    between_fits S (S +ℤ r.period) (greatest_time +ℤ greatest_span) row.fits (search rules) (omega (arith, ints, row.ring.period_low)) (omega (arith, ints, z, row.inside, timely, row.few, row.ring.period_high))

pub overflow_add-count : goal.overflow_add-count
overflow_add-count c =
    let T = to_z w64 (of_z w64 c.args.time) in let r = c.ring-ring.result in let S = c.loop-row.row.start in let N = c.next_row-row.result.start in
    let row = in_row (goal.at.overflow_add-count c).In-loop-row in
    let step : windows_on r T S ≡ window S (S +ℤ r.size) ∷ windows_on r T N = one_on r T S N row.ring row.inside c.next_row-row.ensures.start in
    let left = rw step at c.loop-row.invariant.count in
    omega (arith, left, few_on r T (to_z w64 (of_z w64 c.args.past)) row.ring row.few)

pub loop-row-smaller : goal.loop-row-smaller
loop-row-smaller c =
    let row = in_row (goal.at.loop-row-smaller c).In-loop-row in
    left_less c.loop-row.row.start c.next_row-row.result.start (to_z w64 (of_z w64 c.args.time)) row.inside (omega (arith, ints, c.next_row-row.ensures.start, row.ring.period_low))

pub loop-row-preserved : goal.loop-row-preserved
loop-row-preserved c =
    let T = to_z w64 (of_z w64 c.args.time) in let r = c.ring-ring.result in let S = c.loop-row.row.start in let N = c.next_row-row.result.start in
    let row = in_row (goal.at.loop-row-preserved c).In-loop-row in
    let step : windows_on r T S ≡ window S (S +ℤ r.size) ∷ windows_on r T N = one_on r T S N row.ring row.inside c.next_row-row.ensures.start in
    let w = window S (S +ℤ r.size) in
    let new = put_at_is c.loop-row.table.ring c.args.kinds.now c.args.values.now c.args.key T c.loop-row.table.panes w (windows_on r T N) c.place.result c.place.ensures c.enter_at.new.self.panes
    (c.enter_at.ensures.panes ∙ ap (map.insert c.loop-row.table.panes c.place.result) (any_datum c.args.kinds.now c.args.values.now (datum 0 (pos 0) c.args.key T []) _)) in
    let rises = rw step at c.loop-row.invariant.rising in
    let can = rw step at c.loop-row.invariant.can in
    let left = rw step at c.loop-row.invariant.count in
    let behind : (T -ℤ r.size) <ℤ S = c.loop-row.invariant.behind in
    record {
      panes = rw new (rw step at c.loop-row.invariant.panes);
      can = rw (c.enter_at.ensures.keeps.ring, new) (can_go_on _ _ _ _ _ w (windows_on r T N) _ rises can);
      rising = rises.1;
      ring = c.enter_at.ensures.keeps.ring ∙ c.loop-row.invariant.ring;
      widths = c.enter_at.ensures.keeps.widths ∙ c.loop-row.invariant.widths;
      row = c.next_row-row.ensures.row;
      behind = omega (arith, ints, behind, c.next_row-row.ensures.start, row.ring.period_low);
      count = omega (arith, left);
    }

pub place-requires : goal.place-requires
place-requires c =
    let time : SFits w64 c.args.time = c.ranges.time in
    let z : to_z w64 (of_z w64 c.args.time) ≡ c.args.time = to_z-of_z w64 c.args.time time in
    let r = c.ring-ring.result in let S = c.loop-row.row.start in
    let row = in_row (goal.at.place-requires c).In-loop-row in
    let timely : c.args.time ≤ℤ greatest_time = c.requires.timely.high in
    between_fits S (S +ℤ r.size) (greatest_time +ℤ greatest_span) row.fits (search rules) (omega (arith, ints, row.ring.period_low, row.ring.period_high)) (omega (arith, ints, z, row.inside, timely, row.few))

-- behind the last row
past_last : (c : After-loop-row) → windows_on c.ring-ring.result c.args.time c.loop-row.row.start ≡ []
past_last c =
    let start : SFits w64 c.loop-row.row.start = search rules in
    let after : int_le c.loop-row.row.start c.args.time ≡ false = rw (to_z-of_z w64 c.loop-row.row.start start, to_z-of_z w64 c.args.time c.ranges.time) at c.loop-row-test.false in
    none_on c.ring-ring.result c.args.time c.loop-row.row.start after

pub returns-clause-enters : goal.returns-clause-enters
returns-clause-enters c =
    let z = to_z-of_z w64 c.args.time c.ranges.time in
    let y = to_z-of_z w64 c.args.past c.ranges.past in
    record {
      panes = rw (z, y, past_last c, c.ring-ring.ensures) at c.loop-row.invariant.panes;
      keeps = record { ring = c.loop-row.invariant.ring; widths = c.loop-row.invariant.widths };
    }

pub returns-clause-count : goal.returns-clause-count
returns-clause-count c =
    let z = to_z-of_z w64 c.args.time c.ranges.time in
    let y = to_z-of_z w64 c.args.past c.ranges.past in
    let all = rw (z, y, past_last c, c.ring-ring.ensures) at c.loop-row.invariant.count in
    omega (arith, all)
