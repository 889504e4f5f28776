use Rattle.wsm_follow.proofs.LogLemmas.{each_once}
use Rattle.wsm_follow.proofs.laws.each_line_once.Goals as goal

pub returns : goal.returns
returns c = each_once
