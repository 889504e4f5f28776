use Rattle.std.proofs.Common.{◌≡◌, Some, List, ap, subst, sym, set, length, ◌∙◌}
use Rattle.std.proofs.lemmas.List.{length-set}
use Rattle.std.specs.Prelude.{Option, option_map}
use Rattle.wsm_record.specs.declared.event.Value.{Value}
use Rattle.wsm_windows.specs.declared.place.Place.{Place}
use Rattle.wsm_semantics.specs.Summaries.{Pane}
use Rattle.wsm_slots.specs.Panes.{once_fired}
use Rattle.wsm_list.specs.Stored.{AreListed, AreStored, shown}
use Rattle.wsm_list.proofs.Listed.{set_listed}
use Rattle.wsm_list.proofs.Tables.{get_is, map_of, put_is}
use Rattle.wsm_list.proofs.StoredEdits.{own_entry, set_shows, set_stored, slot_there}
use Rattle.wsm_list.proofs.list.ListTable.fire.Goals as goal

pub number_of-at-requires-clause-there : goal.number_of-at-requires-clause-there
number_of-at-requires-clause-there c = rw (← c.self.view_is, get_is (shown c.self.inside.slots.slots c.self.inside.row.row) c.self.invariant.stored.sorted c.args.spot.place) at c.requires.there

pub fire-requires-clause-slot : goal.fire-requires-clause-slot
fire-requires-clause-slot c = slot_there _ _ c.self.invariant.stored c.number_of-at.result c.get.result c.get.ensures.here

pub invariant_of-self : goal.invariant_of-self
invariant_of-self c =
    let stored = c.self.invariant.stored in
    let os = c.self.inside.slots.slots in
    let k = c.get.result in
    let own = own_entry _ _ stored c.number_of-at.result k c.get.ensures.here c.args.spot.place c.number_of-at.ensures.at in
    let fires : Option (Place × Pane (List Value)) → Option (Place × Pane (List Value)) = option_map (λ e. (e.0, once_fired c.args.mode e.0 (option_map (λ cells. cells.now) c.args.row) e.1)) in
    let v = once_fired c.args.mode c.args.spot.place (option_map (λ cells. cells.now) c.args.row) own.0 in
    let new : c.fire.new.self.slots ≡ set os k (Some (c.args.spot.place, v)) = ap (λ s. s.slots) c.fire.ensures ∙ ap (λ o. set os k (fires o)) own.1.0 in
    record {
      stored = subst (λ ns. AreStored ns c.self.inside.row.row) (sym new) (set_stored _ _ stored c.number_of-at.result k c.get.ensures.here c.args.spot.place c.number_of-at.ensures.at v (slot_there _ _ stored c.number_of-at.result k c.get.ensures.here) c.get.ensures.once);
      listed = subst (λ ns. AreListed ns c.self.inside.row.row) (sym new) (set_listed os c.self.inside.row.row k (c.args.spot.place, v) c.get.ensures.once c.self.invariant.listed);
      room = c.self.invariant.room ∙ sym (ap length new ∙ length-set os k (Some (c.args.spot.place, v)));
    }

pub returns-clause-panes : goal.returns-clause-panes
returns-clause-panes c =
    let stored = c.self.invariant.stored in
    let os = c.self.inside.slots.slots in
    let row = c.self.inside.row.row in
    let k = c.get.result in
    let own = own_entry _ _ stored c.number_of-at.result k c.get.ensures.here c.args.spot.place c.number_of-at.ensures.at in
    let fires : Option (Place × Pane (List Value)) → Option (Place × Pane (List Value)) = option_map (λ e. (e.0, once_fired c.args.mode e.0 (option_map (λ cells. cells.now) c.args.row) e.1)) in
    let v = once_fired c.args.mode c.args.spot.place (option_map (λ cells. cells.now) c.args.row) own.0 in
    let new : c.fire.new.self.slots ≡ set os k (Some (c.args.spot.place, v)) = ap (λ s. s.slots) c.fire.ensures ∙ ap (λ o. set os k (fires o)) own.1.0 in
    let shows = set_shows _ _ stored c.number_of-at.result k c.get.ensures.here c.args.spot.place c.number_of-at.ensures.at v (slot_there _ _ stored c.number_of-at.result k c.get.ensures.here) c.get.ensures.once in (
      own.0,
      rw (← c.self.view_is) (get_is (shown os row) stored.sorted c.args.spot.place ∙ own.1.1),
      rw (← c.self.view_is) (ap (λ ns. map_of (shown ns row)) new ∙ ap map_of shows ∙ put_is (shown os row) stored.sorted c.args.spot.place v),
    )
