use Rattle.wsm_rules.proofs.Lawful.{lawful}
use Rattle.wsm_machine.specs.Meaning.{query_of}
use Rattle.wsm_machine.proofs.CountedSessions.{sessions_by_event}
use Rattle.wsm_amounts.proofs.LastRows as last
use Rattle.wsm_amounts.proofs.programs.last_rows.Goals as goal

pub returns : goal.returns
returns c p whole = last.last_rows (query_of p) (lawful p whole).shape (sessions_by_event p whole)
