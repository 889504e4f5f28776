use Rattle.wsm_semantics.proofs.LiveRecords.{all_live}
use Rattle.wsm_semantics.proofs.laws.every_window_live.Goals as goal

pub returns : goal.returns
returns c = all_live
