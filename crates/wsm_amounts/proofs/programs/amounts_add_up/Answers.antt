use Rattle.wsm_rules.proofs.Lawful.{lawful}
use Rattle.wsm_machine.specs.Meaning.{query_of}
use Rattle.wsm_machine.proofs.CountedSessions.{sessions_by_event}
use Rattle.wsm_amounts.proofs.Law as law
use Rattle.wsm_amounts.proofs.RetractingPanes.{writes_panes}
use Rattle.wsm_amounts.proofs.programs.amounts_add_up.Goals as goal

pub returns : goal.returns
returns c p whole retracting = law.amounts_add_up (query_of p) (lawful p whole).shape (sessions_by_event p whole) (lawful p whole).lateness.low retracting (writes_panes p whole retracting)
