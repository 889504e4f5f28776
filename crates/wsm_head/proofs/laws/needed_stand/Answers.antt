use Rattle.std.proofs.Common.{refl}
use Rattle.wsm_rules.proofs.Lawful.{lawful}
use Rattle.wsm_machine.specs.Meaning.{plan_of, query_of}
use Rattle.wsm_machine.proofs.QueryFolds.{plan_lawful, plan_runs}
use Rattle.wsm_machine.proofs.CountedSessions.{sessions_by_event}
use Rattle.wsm_head.proofs.NeededStand.{has_room, needed_stand}
use Rattle.wsm_head.proofs.laws.needed_stand.Goals as goal

pub returns-clause-stand : goal.returns-clause-stand
returns-clause-stand c p whole past few = needed_stand (plan_of p) (plan_lawful p) (query_of p) (plan_runs p) (lawful p whole).shape (sessions_by_event p whole) (lawful p whole).lateness.low past (has_room (query_of p) past few)

pub returns-clause-by_program : goal.returns-clause-by_program
returns-clause-by_program c p records = refl
