use Rattle.std.proofs.Common.{Some, ap, sym, ◌∙◌}
use Rattle.std.specs.Option.{is_some}
use Rattle.std.specs.FinMap.{get-entries}
use Rattle.wsm_panes.proofs.held.HeldPanes.pane.Goals as goal

pub pane-requires : goal.pane-requires
pane-requires c = rw c.rebuilt.ensures (ap is_some (get-entries c.in-Sessions.list.panes c.args.spot.place) ∙ (rw (← c.self.view_is, c.in-Sessions.is) at c.requires.there))

pub pane-requires-in-Grid-clause-there : goal.pane-requires-in-Grid-clause-there
pane-requires-in-Grid-clause-there c = ap is_some (get-entries c.in-Grid.ring.panes c.args.spot.place) ∙ (rw (← c.self.view_is, c.in-Grid.is) at c.requires.there)

pub returns-in-Sessions : goal.returns-in-Sessions
returns-in-Sessions c = rw (← c.self.view_is, c.in-Sessions.is) (sym (get-entries c.in-Sessions.list.panes c.args.spot.place) ∙ (rw c.rebuilt.ensures at c.pane.ensures) ∙ ap Some (sym c.rebuilt-in-Sessions.ensures))

pub returns-in-Grid : goal.returns-in-Grid
returns-in-Grid c = rw (← c.self.view_is, c.in-Grid.is) (sym (get-entries c.in-Grid.ring.panes c.args.spot.place) ∙ c.pane-in-Grid.ensures)
