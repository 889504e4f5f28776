use Rattle.std.proofs.Common.{◌≡◌, ◌<ℤ◌, true, None, Some, SFits, w64, rules, ap, arith, ◌∙◌}
use Rattle.std.specs.FinMap as map
use Rattle.std.specs.FinMap.Entries.{find}
use Rattle.std.specs.Option.{is_some}
use Rattle.std.proofs.lemmas.Int.{ints, to_z-of_z}
use Rattle.wsm_windows.specs.declared.place.Place.{Place}
use Rattle.wsm_windows.specs.Places.{place_cmp}
use Rattle.wsm_ring.specs.Ring.{at_slot, IsFirstPast, IsFirstUntil, IsLastDue}
use Rattle.wsm_slots.specs.Walk.{first_past, place_due, place_found}
use Rattle.wsm_ring.proofs.Placed.{panes_in}
use Rattle.wsm_ring.proofs.RingWalk.{spot_has_slot}
use Rattle.wsm_ring.proofs.DueWalk.{entry_at, nothing_due, past_due_walk}
use Rattle.wsm_ring.proofs.ring_table.RingTablePaneTablePane.first_due_after.Goals as goal

pub first_until-found-requires : goal.first_until-found-requires
first_until-found-requires c = record { all = record { ring = c.self.invariant.ring; slots = c.self.invariant.slots; placed = c.self.invariant.placed }; grid = search rules; fits = search rules }

pub returns-in_err-last-clause-place : goal.returns-in_err-last-clause-place
returns-in_err-last-clause-place c =
    let a = c.self.inside in
    let limit : SFits w64 c.args.limit = c.ranges.limit in
    let first : SFits w64 a.first = c.self.invariant.first in
    let none : IsLastDue a.ring a.first a.last c.args.limit None = rw c.in_err-last.was at (simp to_z-of_z at c.last_due.ensures) in
    let past : (e : Place × _) → is_some (find place_cmp e.0 (map.entries (panes_in a.slots.slots))) ≡ true → c.args.limit <ℤ e.0.end = λ e there.
    let at = entry_at a.ring a.slots.slots c.self.invariant.placed a.first a.last c.args.limit c.self.invariant.between e there in
    omega (arith, ints, none e.0.start (c.self.invariant.between _ _ at.1).0, (c.self.invariant.placed _ _ at.1).0.end) in
    ap place_found c.from_residual.ensures ∙ (nothing_due a.ring a.slots.slots c.self.invariant.placed a.first a.last c.args.limit c.self.invariant.between past).2 c.args.after ∙ ap (λ t. place_due c.args.limit (first_past c.args.after (map.entries t.panes))) c.self.view_is

pub returns-clause-place : goal.returns-clause-place
returns-clause-place c =
    let a = c.self.inside in
    let limit : SFits w64 c.args.limit = c.ranges.limit in
    let after : SFits w64 c.args.after = c.ranges.after in
    let first : SFits w64 a.first = c.self.invariant.first in
    let last : SFits w64 a.last = search rules in
    let until : SFits w64 c.in_ok-last.last = search rules in
    let start : SFits w64 c.first_past-start.result = search rules in
    let is : IsLastDue a.ring a.first a.last c.args.limit (Some c.in_ok-last.last) = rw c.in_ok-last.was at (simp to_z-of_z at c.last_due.ensures) in
    let past : IsFirstPast a.ring a.first c.args.after c.first_past-start.result = simp to_z-of_z at c.first_past-start.ensures in
    let found : IsFirstUntil a.ring a.slots.slots c.first_past-start.result 0 c.in_ok-last.last (at_slot a.slots.slots c.first_until-found.result) = (simp to_z-of_z at c.first_until-found.ensures.first) in
    c.spot_in.ensures.place
    ∙ past_due_walk a.ring a.slots.slots c.self.invariant.placed a.first a.last c.args.limit c.self.invariant.between c.in_ok-last.last is.0 c.args.after c.first_past-start.result (at_slot a.slots.slots c.first_until-found.result) past found
    ∙ ap (λ t. place_due c.args.limit (first_past c.args.after (map.entries t.panes))) c.self.view_is

pub returns-clause-spot : goal.returns-clause-spot
returns-clause-spot c = rw (← c.self.view_is) (spot_has_slot c.self.inside.ring c.self.inside.slots.slots c.self.invariant.placed c.first_until-found.result c.spot_in.result c.spot_in.ensures.place c.spot_in.ensures.at)
