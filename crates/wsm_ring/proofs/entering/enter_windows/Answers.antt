use Rattle.std.proofs.Common.{◌≡◌, ◌∷◌, [], pos, List, sym, ap, ◌∙◌, Fits, w16, w64, to_z, of_z, ◌+ℤ◌, arith}
use Rattle.std.proofs.lemmas.Int.{to_z-of_z}
use Rattle.std.specs.FinMap as map
use Rattle.wsm_windows.specs.declared.window.Window.{Window}
use Rattle.wsm_windows.specs.Windows.{window}
use Rattle.wsm_semantics.specs.Replay.{datum}
use Rattle.wsm_semantics.specs.Summaries.{assigned}
use Rattle.wsm_slots.specs.Panes.{taking}
use Rattle.wsm_ring.specs.Entering.{windows_past}
use Rattle.wsm_ring.specs.Ring.{IsRing}
use Rattle.wsm_slots.proofs.Keys.{any_datum}
use Rattle.wsm_ring.proofs.InTurn.{admits_at, put_at_is, takes_at}
use Rattle.wsm_ring.proofs.Rings.{row_within}
use Rattle.wsm_ring.proofs.entering.enter_windows.Goals as goal
use Rattle.wsm_ring.proofs.entering.enter_windows.Goals.{In-Some}

-- the window of the row is the only one that has the time inside and ends past the other
only : (c : In-Some) → windows_past c.args.table.now.ring c.args.past c.args.time ≡ window c.in-Some.row.start (c.in-Some.row.start +ℤ c.args.table.now.ring.size) ∷ []
only c =
    let z : to_z w64 (of_z w64 c.args.time) ≡ c.args.time = to_z-of_z w64 c.args.time c.ranges.time in
    let y : to_z w64 (of_z w64 c.args.past) ≡ c.args.past = to_z-of_z w64 c.args.past c.ranges.past in
    rw (z, y) at c.in-Some.ensures.only

pub overflow_add-row : goal.overflow_add-row
overflow_add-row c =
    let key : Fits w16 c.args.key = c.ranges.key in
    let ring : IsRing c.args.table.now.ring = c.requires.can.apart.ring in
    omega (arith, key, c.in-Some.ensures.row.slot, row_within c.args.table.now.ring c.in-Some.row.start ring, ring.slots)

pub enter_at-requires-clause-admits : goal.enter_at-requires-clause-admits
enter_at-requires-clause-admits c =
    let r = c.args.table.now.ring in let S = c.in-Some.row.start in
    let can = rw (only (goal.at.enter_at-requires-clause-admits c).In-Some) at c.requires.can in
    admits_at r c.args.kinds.now c.args.values.now c.args.key c.args.time c.args.table.now.panes (window S (S +ℤ r.size)) [] c.place-place.result (rw c.ring.ensures at c.place-place.ensures) can

pub enter_at-requires-clause-takes : goal.enter_at-requires-clause-takes
enter_at-requires-clause-takes c =
    let r = c.args.table.now.ring in let S = c.in-Some.row.start in
    let can = rw (only (goal.at.enter_at-requires-clause-takes c).In-Some) at c.requires.can in
    takes_at r c.args.kinds.now c.args.values.now c.args.key c.args.time c.args.table.now.panes (window S (S +ℤ r.size)) [] c.place-place.result (rw c.ring.ensures at c.place-place.ensures) can

pub returns-in-Some-clause-enters : goal.returns-in-Some-clause-enters
returns-in-Some-clause-enters c =
    let r = c.args.table.now.ring in let S = c.in-Some.row.start in
    let plan = taking c.args.kinds.now c.args.values.now in let d = datum 0 (pos 0) c.args.key c.args.time [] in
    let new = put_at_is r c.args.kinds.now c.args.values.now c.args.key c.args.time c.args.table.now.panes (window S (S +ℤ r.size)) [] c.place-place.result (rw c.ring.ensures at c.place-place.ensures) c.enter_at.new.self.panes
    (c.enter_at.ensures.panes ∙ ap (map.insert c.args.table.now.panes c.place-place.result) (any_datum c.args.kinds.now c.args.values.now d _)) in
    record { panes = new ∙ ap (λ (ws : List Window). assigned plan d ws (map.entries c.args.table.now.panes)) (sym (only (goal.at.returns-in-Some-clause-enters c).In-Some)); keeps = c.enter_at.ensures.keeps }
