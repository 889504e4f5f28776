use Rattle.wsm_semantics.proofs.KeptLaw.{replayed-is}
use Rattle.wsm_semantics.proofs.laws.kept_alone.Goals as goal

pub returns : goal.returns
returns c = replayed-is
