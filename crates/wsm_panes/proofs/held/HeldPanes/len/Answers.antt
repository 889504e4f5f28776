use Rattle.std.proofs.Common.{◌∙◌}
use Rattle.std.specs.FinMap.{len-entries}
use Rattle.wsm_panes.proofs.held.HeldPanes.len.Goals as goal

pub returns-in-Sessions : goal.returns-in-Sessions
returns-in-Sessions c = rw (← c.self.view_is, c.in-Sessions.is) (c.len.ensures ∙ len-entries c.in-Sessions.list.panes)

pub returns-in-Grid : goal.returns-in-Grid
returns-in-Grid c = rw (← c.self.view_is, c.in-Grid.is) (c.len-in-Grid.ensures ∙ len-entries c.in-Grid.ring.panes)
