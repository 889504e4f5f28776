use Rattle.wsm_semantics.proofs.NeededLive.{each_of_live}
use Rattle.wsm_semantics.proofs.NeededEvents.{needed_alone, needed_follow, needed_writes}
use Rattle.wsm_rules.proofs.Lawful.{lawful}
use Rattle.wsm_machine.specs.Meaning.{plan_of, query_of}
use Rattle.wsm_machine.proofs.QueryFolds.{plan_lawful, plan_runs}
use Rattle.wsm_machine.proofs.CountedSessions.{sessions_by_event}
use Rattle.wsm_engine.proofs.laws.needed_alone.Goals as goal

pub returns-clause-needed : goal.returns-clause-needed
returns-clause-needed c p whole past = needed_alone (plan_of p) (plan_lawful p) (query_of p) (plan_runs p) (lawful p whole).shape (sessions_by_event p whole) (lawful p whole).lateness.low past

pub returns-clause-live : goal.returns-clause-live
returns-clause-live c p whole past = each_of_live (query_of p) (lawful p whole).shape past

pub returns-clause-records : goal.returns-clause-records
returns-clause-records c p whole records past = (
  needed_follow (plan_of p) (plan_lawful p) (query_of p) (plan_runs p) (lawful p whole).shape (sessions_by_event p whole) (lawful p whole).lateness.low records past,
  needed_writes (plan_of p) (plan_lawful p) (query_of p) (plan_runs p) (lawful p whole).shape (sessions_by_event p whole) (lawful p whole).lateness.low records past,
)
