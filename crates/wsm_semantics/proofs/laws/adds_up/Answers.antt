use Rattle.wsm_semantics.proofs.LastingLaw.{adds_up}
use Rattle.wsm_semantics.proofs.LastingOnce.{lasting_once}
use Rattle.wsm_semantics.proofs.laws.adds_up.Goals as goal

pub returns : goal.returns
returns c = λ q ok timely low retracting panes past. record { rows = adds_up q ok timely low retracting panes past; once = lasting_once q ok timely low past }
