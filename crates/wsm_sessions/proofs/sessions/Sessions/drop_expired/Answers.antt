use Rattle.std.proofs.Common.{ap, ◌∙◌, sym, SFits, w64, to_z-of_z}
use Rattle.std.specs.Prelude.{filter}
use Rattle.wsm_semantics.specs.Sessions.{ends_after}
use Rattle.wsm_semantics.proofs.LiveTimes.{sessions-live}
use Rattle.wsm_sessions.specs.Live.{times_left}
use Rattle.wsm_sessions.proofs.SessionEdits.{apart_of, parted}
use Rattle.wsm_sessions.proofs.sessions.Sessions.drop_expired.Goals as goal

pub keep_past-requires : goal.keep_past-requires
keep_past-requires c = parted c.self.inside.gap _ c.self.invariant.0 _ (apart_of c.self.inside.gap c.self.invariant.0 _ c.self.invariant.2)

pub invariant_of-self : goal.invariant_of-self
invariant_of-self c =
    let limit : SFits w64 c.args.limit = c.ranges.limit in
    let items = simp to_z-of_z at c.keep_past.ensures.items in
    let of = c.self.invariant.2 in (
      c.self.invariant.0,
      c.self.invariant.1,
      record { times = times_left c.self.inside.gap c.args.limit of.times; are = items ∙ ap (filter (ends_after c.args.limit)) of.are ∙ sym (sessions-live c.args.limit c.self.inside.gap c.self.invariant.0 of.times) },
    )

pub returns-clause-fits : goal.returns-clause-fits
returns-clause-fits c times h =
    let limit : SFits w64 c.args.limit = c.ranges.limit in
    let items = simp to_z-of_z at c.keep_past.ensures.items in
    rw (← c.self.view_is) (items ∙ ap (filter (ends_after c.args.limit)) (rw (← c.self.view_is) at h) ∙ sym (sessions-live c.args.limit c.self.inside.gap c.self.invariant.0 times))
