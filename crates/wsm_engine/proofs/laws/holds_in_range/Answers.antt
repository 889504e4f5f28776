use Rattle.wsm_engine.proofs.AccumulatorLaws.{held_in_range}
use Rattle.wsm_engine.proofs.laws.holds_in_range.Goals as goal

pub returns : goal.returns
returns c = held_in_range
