use Rattle.wsm_semantics.proofs.HeldContents.{contents_bounded}
use Rattle.wsm_rules.proofs.Lawful.{lawful}
use Rattle.wsm_machine.specs.Meaning.{query_of}
use Rattle.wsm_machine.proofs.CountedSessions.{sessions_by_event}
use Rattle.wsm_engine.proofs.AccumulatorLaws.{sessions_join}
use Rattle.wsm_engine.proofs.laws.joins_within.Goals as goal

pub returns-clause-records : goal.returns-clause-records
returns-clause-records c p gap whole session past = contents_bounded (query_of p) gap session (lawful p whole).shape (sessions_by_event p whole) past

pub returns-clause-sums : goal.returns-clause-sums
returns-clause-sums c p costs gap judged whole session past = sessions_join p costs judged whole past gap session
