use Rattle.wsm_semantics.proofs.LaterLaw.{same_beyond, same_rows_beyond, settled_beyond}
use Rattle.wsm_semantics.proofs.LaterParts.{parted_on, over_settled, over_parts_none}
use Rattle.wsm_rules.proofs.Lawful.{lawful}
use Rattle.wsm_machine.specs.Meaning.{query_of}
use Rattle.wsm_machine.proofs.CountedSessions.{sessions_by_event}
use Rattle.wsm_engine.proofs.Ignoring.{turns_ignored}
use Rattle.wsm_engine.proofs.laws.left_out.Goals as goal

pub returns-clause-panes : goal.returns-clause-panes
returns-clause-panes c p whole = same_beyond (query_of p) (lawful p whole).shape (sessions_by_event p whole)

pub returns-clause-rows : goal.returns-clause-rows
returns-clause-rows c p whole = same_rows_beyond (query_of p) (lawful p whole).shape (sessions_by_event p whole) (turns_ignored p)

pub returns-clause-settled : goal.returns-clause-settled
returns-clause-settled c p whole = settled_beyond (query_of p) (lawful p whole).shape (sessions_by_event p whole) (lawful p whole).lateness.low (turns_ignored p)

pub returns-clause-coming : goal.returns-clause-coming
returns-clause-coming c p whole = parted_on (query_of p) (lawful p whole).shape (sessions_by_event p whole)

pub returns-clause-times : goal.returns-clause-times
returns-clause-times c p whole past = (over_settled (query_of p) (lawful p whole).shape past, over_parts_none (query_of p) (lawful p whole).shape past)
