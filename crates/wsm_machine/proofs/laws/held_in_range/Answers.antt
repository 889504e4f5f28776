use Rattle.wsm_machine.proofs.HeldWords.{held_in_range}
use Rattle.wsm_machine.proofs.laws.held_in_range.Goals as goal

pub returns : goal.returns
returns c = held_in_range
