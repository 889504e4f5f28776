use Rattle.std.proofs.Common.{ap, ◌∙◌}
use Rattle.std.specs.Option.{is_some}
use Rattle.std.specs.FinMap.{get-entries}
use Rattle.wsm_panes.proofs.held.HeldPanes.next_due.Goals as goal

pub next_due-requires-clause-there : goal.next_due-requires-clause-there
next_due-requires-clause-there c = rw c.rebuilt.ensures (ap is_some (get-entries c.in-Sessions.list.panes c.args.spot.place) ∙ (rw (← c.self.view_is, c.in-Sessions.is) at c.requires.there))

pub next_due-requires-in-Grid-clause-there : goal.next_due-requires-in-Grid-clause-there
next_due-requires-in-Grid-clause-there c = ap is_some (get-entries c.in-Grid.ring.panes c.args.spot.place) ∙ (rw (← c.self.view_is, c.in-Grid.is) at c.requires.there)
