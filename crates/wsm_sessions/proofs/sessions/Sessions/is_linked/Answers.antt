use Rattle.std.proofs.Common.{List, ◌∙◌, sym, rules, SFits, w64, to_z-of_z}
use Rattle.wsm_windows.specs.declared.window.Window.{Window}
use Rattle.wsm_sessions.proofs.SessionEdits.{apart_of, begun, extends_linked, joins_linked}
use Rattle.wsm_sessions.proofs.sessions.Sessions.is_linked.Goals as goal

pub returns-in-New : goal.returns-in-New
returns-in-New c =
    let time : SFits w64 c.args.time = c.ranges.time in
    let gap : SFits w64 c.self.inside.gap = search rules in
    let ws : List Window = c.self.inside.windows.items in
    let apart = apart_of c.self.inside.gap c.self.invariant.0 ws c.self.invariant.2 in
    let found = sym (simp to_z-of_z at c.find.ensures.found) ∙ c.in-New.is in
    rw (← c.self.view_is) (sym (begun c.self.inside.gap c.self.invariant.0 c.args.time ws apart _ found).1.0)

pub returns-in-Extends : goal.returns-in-Extends
returns-in-Extends c =
    let time : SFits w64 c.args.time = c.ranges.time in
    let gap : SFits w64 c.self.inside.gap = search rules in
    let ws : List Window = c.self.inside.windows.items in
    let apart = apart_of c.self.inside.gap c.self.invariant.0 ws c.self.invariant.2 in
    let found = sym (simp to_z-of_z at c.find.ensures.found) ∙ c.in-Extends.is in
    rw (← c.self.view_is) (extends_linked c.self.inside.gap c.self.invariant.0 c.args.time ws apart _ found)

pub returns-in-Joins : goal.returns-in-Joins
returns-in-Joins c =
    let time : SFits w64 c.args.time = c.ranges.time in
    let gap : SFits w64 c.self.inside.gap = search rules in
    let ws : List Window = c.self.inside.windows.items in
    let apart = apart_of c.self.inside.gap c.self.invariant.0 ws c.self.invariant.2 in
    let found = sym (simp to_z-of_z at c.find.ensures.found) ∙ c.in-Joins.is in
    rw (← c.self.view_is) (joins_linked c.self.inside.gap c.self.invariant.0 c.args.time ws apart _ found)
