use Rattle.std.proofs.Common.{◌∙◌}
use Rattle.wsm_live.proofs.run.LiveRun.sum.Goals as goal

pub returns : goal.returns
returns g c = λ by before behind. c.sum.ensures ∙ behind.sum
