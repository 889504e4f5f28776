use Rattle.std.proofs.Common.{Some, ap, sym, ◌∙◌}
use Rattle.std.specs.Prelude.{option_map}
use Rattle.wsm_list.specs.Stored.{shown}
use Rattle.wsm_list.proofs.StoredEdits.{has_entry, own_entry}
use Rattle.wsm_list.proofs.Tables.{get_is}
use Rattle.wsm_list.proofs.list.ListTablePaneTablePane.get.Goals as goal

pub pane-requires : goal.pane-requires
pane-requires c = has_entry _ _ c.self.invariant.stored c.in-Ok.i c.get.result c.get.ensures.here

pub returns-in-Ok-clause-pane : goal.returns-in-Ok-clause-pane
returns-in-Ok-clause-pane c =
    let stored = c.self.invariant.stored in
    let own = own_entry _ _ stored c.in-Ok.i c.get.result c.get.ensures.here c.args.place c.in-Ok.ensures.found in
    rw (← c.self.view_is)
    (ap Some c.of_view.ensures ∙ sym c.pane.ensures.same ∙ ap (option_map (λ e. e.1)) own.1.0 ∙ sym own.1.1
    ∙ sym (get_is (shown c.self.inside.slots.slots c.self.inside.row.row) stored.sorted c.args.place))

pub returns-in-Err-clause-pane : goal.returns-in-Err-clause-pane
returns-in-Err-clause-pane c = rw (← c.self.view_is) (sym (get_is (shown c.self.inside.slots.slots c.self.inside.row.row) c.self.invariant.stored.sorted c.args.place ∙ c.in-Err.ensures.absent.absent))
