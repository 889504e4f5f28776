use Rattle.wsm_deal.specs.Deal.{goal_of, is_for}
use Rattle.wsm_deal.proofs.ReadBack.{part_read}
use Rattle.wsm_deal.proofs.laws.read_back.Goals as goal

pub returns : goal.returns
returns c = λ bytes rows all s part. part_read bytes (λ row. is_for part (goal_of s row)) rows all
