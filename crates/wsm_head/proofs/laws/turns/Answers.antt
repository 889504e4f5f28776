use Rattle.wsm_rules.proofs.Lawful.{lawful}
use Rattle.wsm_machine.specs.Meaning.{plan_of, query_of}
use Rattle.wsm_machine.proofs.QueryFolds.{plan_lawful, plan_runs}
use Rattle.wsm_machine.proofs.CountedSessions.{sessions_by_event}
use Rattle.wsm_head.proofs.Turning.{turns_alike}
use Rattle.wsm_head.proofs.laws.turns.Goals as goal

pub returns : goal.returns
returns g c p whole records clocks k other number x alike = turns_alike (plan_of p) (plan_lawful p) (query_of p) (plan_runs p) (lawful p whole).shape (sessions_by_event p whole) (lawful p whole).lateness.low records clocks k other number x alike
