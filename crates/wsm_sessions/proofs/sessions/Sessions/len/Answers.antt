use Rattle.wsm_sessions.proofs.Classes.{in_one}
use Rattle.wsm_sessions.proofs.sessions.Sessions.len.Goals as goal

pub returns-clause-covers : goal.returns-clause-covers
returns-clause-covers c times h t m = rw (← c.self.view_is) (in_one c.self.inside.gap c.self.invariant.0 times c.self.inside.windows.items (rw (← c.self.view_is) at h) t m)
