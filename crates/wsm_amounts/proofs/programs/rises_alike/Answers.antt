use Rattle.wsm_rules.proofs.Lawful.{lawful}
use Rattle.wsm_machine.specs.Meaning.{query_of}
use Rattle.wsm_machine.proofs.CountedSessions.{sessions_by_event}
use Rattle.wsm_amounts.proofs.Rises as rises
use Rattle.wsm_amounts.proofs.programs.rises_alike.Goals as goal

pub returns : goal.returns
returns c p whole panes = rises.rises_alike (query_of p) (lawful p whole).shape (sessions_by_event p whole) (lawful p whole).lateness.low panes
