use Rattle.wsm_rules.proofs.Lawful.{lawful}
use Rattle.wsm_machine.specs.Meaning.{plan_of, query_of}
use Rattle.wsm_machine.proofs.QueryFolds.{plan_lawful, plan_runs}
use Rattle.wsm_machine.proofs.CountedSessions.{sessions_by_event}
use Rattle.wsm_head.proofs.Following.{follows}
use Rattle.wsm_head.proofs.NeededStand.{stand_through}
use Rattle.wsm_head.proofs.laws.follows.Goals as goal

pub returns-clause-next : goal.returns-clause-next
returns-clause-next c p whole records past other stands e = follows (plan_of p) (plan_lawful p) (query_of p) (plan_runs p) (lawful p whole).shape (sessions_by_event p whole) (lawful p whole).lateness.low records past other stands e

pub returns-clause-through : goal.returns-clause-through
returns-clause-through c p records fewer past mid other first second = stand_through (plan_of p) (query_of p) records fewer past mid other first second
