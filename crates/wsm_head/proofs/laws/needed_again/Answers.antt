use Rattle.wsm_rules.proofs.Lawful.{lawful}
use Rattle.wsm_semantics.specs.Needed.{needed}
use Rattle.wsm_machine.specs.Meaning.{plan_of, query_of}
use Rattle.wsm_machine.proofs.QueryFolds.{plan_lawful, plan_runs}
use Rattle.wsm_machine.proofs.CountedSessions.{sessions_by_event}
use Rattle.wsm_head.specs.StandsFor.{program_with, records_left}
use Rattle.wsm_head.proofs.NeededStand.{has_room, needed_stand, stand_through, taken_alike}
use Rattle.wsm_head.proofs.laws.needed_again.Goals as goal

pub returns-clause-stand : goal.returns-clause-stand
returns-clause-stand c p whole records lesser past other stands few =
    let l = program_with records p in
    let q = query_of l in
    stand_through (plan_of p) (query_of p) records (records_left q other) past other (needed q other) stands
    (needed_stand (plan_of l) (plan_lawful l) q (plan_runs l) (lawful l lesser).shape (sessions_by_event l lesser) (lawful l lesser).lateness.low other (has_room q other few))

pub returns-clause-taken : goal.returns-clause-taken
returns-clause-taken c p records other few enough = taken_alike (query_of (program_with records p)) p.header.clock.records other few enough
