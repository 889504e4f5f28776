use Rattle.wsm_semantics.proofs.HeldLaw as held_law
use Rattle.wsm_semantics.proofs.laws.held_bounded.Goals as goal

pub returns : goal.returns
returns c = held_law.held_bounded
