use Rattle.std.proofs.Common.{List, ◌∷◌, ap, ◌∙◌, sym, rules, SFits, w64, to_z-of_z}
use Rattle.wsm_windows.specs.declared.window.Window.{Window}
use Rattle.wsm_semantics.specs.Sessions.{with_session}
use Rattle.wsm_semantics.proofs.Sessions.{sessions-more}
use Rattle.wsm_sessions.proofs.sessions.Sessions.put.Goals as goal

pub invariant_of-self : goal.invariant_of-self
invariant_of-self c =
    let time : SFits w64 c.args.time = c.ranges.time in
    let gap : SFits w64 c.self.inside.gap = search rules in
    let ws : List Window = c.self.inside.windows.items in
    let items = simp to_z-of_z at c.put_time.ensures.items in (
      c.self.invariant.0,
      c.self.invariant.1,
      record { times = c.args.time ∷ c.self.invariant.2.times; are = items ∙ ap (with_session c.self.inside.gap c.args.time) c.self.invariant.2.are ∙ sym (sessions-more c.self.inside.gap c.self.invariant.0 c.args.time c.self.invariant.2.times) },
    )

pub returns-clause-fits : goal.returns-clause-fits
returns-clause-fits c times h =
    let time : SFits w64 c.args.time = c.ranges.time in
    let gap : SFits w64 c.self.inside.gap = search rules in
    let items = simp to_z-of_z at c.put_time.ensures.items in
    items ∙ ap (with_session c.self.inside.gap c.args.time) (rw (← c.self.view_is) at h) ∙ sym (sessions-more c.self.inside.gap c.self.invariant.0 c.args.time times)
