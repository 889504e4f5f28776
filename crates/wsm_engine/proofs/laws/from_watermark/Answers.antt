use Rattle.wsm_semantics.proofs.LaterLaw.{begun_alone, begun_by_marks, followed, same_after, same_rows_after, settled_after}
use Rattle.wsm_rules.proofs.Lawful.{lawful}
use Rattle.wsm_machine.specs.Meaning.{query_of}
use Rattle.wsm_machine.proofs.CountedSessions.{sessions_by_event}
use Rattle.wsm_engine.proofs.Ignoring.{turns_ignored}
use Rattle.wsm_engine.proofs.laws.from_watermark.Goals as goal

pub returns-clause-begun : goal.returns-clause-begun
returns-clause-begun c p = begun_alone (query_of p)

pub returns-clause-marks : goal.returns-clause-marks
returns-clause-marks c p = begun_by_marks (query_of p)

pub returns-clause-events : goal.returns-clause-events
returns-clause-events c = followed

pub returns-clause-panes : goal.returns-clause-panes
returns-clause-panes c p whole = same_after (query_of p) (lawful p whole).shape (sessions_by_event p whole)

pub returns-clause-rows : goal.returns-clause-rows
returns-clause-rows c p whole = same_rows_after (query_of p) (lawful p whole).shape (sessions_by_event p whole) (turns_ignored p)

pub returns-clause-settled : goal.returns-clause-settled
returns-clause-settled c p whole apart = settled_after (query_of p) (lawful p whole).shape apart (lawful p whole).lateness.low (turns_ignored p)
