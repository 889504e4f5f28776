use Rattle.std.proofs.Common.{ap, sym, ◌∙◌}
use Rattle.std.specs.Prelude.{option_map}
use Rattle.wsm_list.specs.Stored.{shown}
use Rattle.wsm_list.proofs.Tables.{get_is}
use Rattle.wsm_list.proofs.StoredEdits.{has_entry, own_entry}
use Rattle.wsm_list.proofs.list.ListTable.pane.Goals as goal

pub number_of-at-requires-clause-there : goal.number_of-at-requires-clause-there
number_of-at-requires-clause-there c = rw (← c.self.view_is, get_is (shown c.self.inside.slots.slots c.self.inside.row.row) c.self.invariant.stored.sorted c.args.spot.place) at c.requires

pub pane-requires : goal.pane-requires
pane-requires c = has_entry _ _ c.self.invariant.stored c.number_of-at.result c.get.result c.get.ensures.here

pub returns : goal.returns
returns c =
    let stored = c.self.invariant.stored in
    let own = own_entry _ _ stored c.number_of-at.result c.get.result c.get.ensures.here c.args.spot.place c.number_of-at.ensures.at in
    rw (← c.self.view_is) (get_is (shown c.self.inside.slots.slots c.self.inside.row.row) stored.sorted c.args.spot.place ∙ own.1.1 ∙ sym (ap (option_map (λ e. e.1)) own.1.0) ∙ c.pane.ensures.same)
