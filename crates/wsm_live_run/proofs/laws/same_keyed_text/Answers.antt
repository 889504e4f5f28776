use Rattle.std.proofs.Common.{[]}
use Rattle.wsm_live_run.proofs.laws.same_keyed_text.Goals as goal

pub returns : goal.returns
returns c = λ g lines stands. stands.turns []
