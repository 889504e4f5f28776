use Rattle.wsm_sessions.proofs.Classes.{class_at}
use Rattle.wsm_sessions.proofs.SessionEdits.{apart_of, behind_at, lasts_at}
use Rattle.wsm_sessions.proofs.sessions.Sessions.at.Goals as goal

pub returns-clause-apart : goal.returns-clause-apart
returns-clause-apart c =
    let ws = c.self.inside.windows.items in
    let gap = c.self.inside.gap in
    let apart = apart_of gap c.self.invariant.0 ws c.self.invariant.2 in
    rw (← c.self.view_is) (record { lasts = lasts_at gap ws apart c.args.i _ c.get.ensures; behind = behind_at gap ws apart c.args.i _ c.get.ensures })

pub returns-clause-class : goal.returns-clause-class
returns-clause-class c times h =
    rw (← c.self.view_is)
    (class_at c.self.inside.gap c.self.invariant.0 times c.self.inside.windows.items (rw (← c.self.view_is) at h) c.args.i c.get.result c.get.ensures)
