use Rattle.std.proofs.Common.{ap, sym, ◌∙◌}
use Rattle.std.specs.Option.{is_some}
use Rattle.std.specs.Prelude.{option_map}
use Rattle.wsm_slots.specs.Slots.{pane_of, slot_at}
use Rattle.wsm_ring.proofs.Placed.{get_in, pane_here}
use Rattle.wsm_ring.proofs.RingWalk.{there_in}
use Rattle.wsm_ring.proofs.ring_table.RingTable.pane.Goals as goal

pub pane-requires : goal.pane-requires
pane-requires c =
    let a = c.self.inside in
    let there = there_in a.ring a.slots.slots c.self.invariant.placed c.args.spot.place (rw (← c.self.view_is) at c.requires.there) in
    ap is_some (ap (slot_at a.slots.slots) (rw (← c.self.view_is) at c.requires.spot) ∙ there.1)

pub returns : goal.returns
returns c =
    let a = c.self.inside in
    let there = there_in a.ring a.slots.slots c.self.invariant.placed c.args.spot.place (rw (← c.self.view_is) at c.requires.there) in
    let at = ap (slot_at a.slots.slots) (rw (← c.self.view_is) at c.requires.spot) ∙ there.1 in
    rw (← c.self.view_is) (get_in a.ring a.slots.slots c.self.invariant.placed c.args.spot.place ∙ ap (pane_of c.args.spot.place) there.1 ∙ pane_here c.args.spot.place there.0 ∙ ap (option_map (λ e. e.1)) (sym at) ∙ c.pane.ensures.same)
