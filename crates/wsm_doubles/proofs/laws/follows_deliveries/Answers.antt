use Rattle.wsm_doubles.proofs.Followed.{follows}
use Rattle.wsm_doubles.proofs.laws.follows_deliveries.Goals as goal

pub returns : goal.returns
returns c = follows
