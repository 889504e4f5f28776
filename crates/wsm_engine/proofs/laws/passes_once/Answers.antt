use Rattle.wsm_semantics.proofs.Deliveries.{passes_alike}
use Rattle.wsm_semantics.proofs.DeliveriesRows.{writes_once}
use Rattle.wsm_rules.proofs.Lawful.{lawful}
use Rattle.wsm_machine.specs.Meaning.{plan_of, query_of}
use Rattle.wsm_machine.proofs.QueryFolds.{plan_lawful, plan_runs}
use Rattle.wsm_machine.proofs.CountedSessions.{sessions_by_event}
use Rattle.wsm_engine.proofs.laws.passes_once.Goals as goal

pub returns-clause-alike : goal.returns-clause-alike
returns-clause-alike c p whole time_of ds timed = passes_alike (query_of p) (lawful p whole).shape time_of ds timed

pub returns-clause-rows : goal.returns-clause-rows
returns-clause-rows c p whole time_of ds timed = writes_once (plan_of p) (plan_lawful p) (query_of p) (plan_runs p) (lawful p whole).shape (sessions_by_event p whole) (lawful p whole).lateness.low time_of ds timed
