use Rattle.std.proofs.Common.{◌∙◌}
use Rattle.wsm_live.proofs.run.LiveRun.count.Goals as goal

pub returns : goal.returns
returns g c = λ by before behind. c.count.ensures ∙ behind.count
