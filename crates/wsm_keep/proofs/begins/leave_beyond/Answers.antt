use Rattle.std.proofs.Common.{rules}
use Rattle.std.proofs.lemmas.Fn.{filter_same}
use Rattle.wsm_keep.specs.Begins.{begins_beyond}
use Rattle.wsm_keep.specs.Items.{times_of}
use Rattle.wsm_keep.proofs.begins.leave_beyond.Goals as goal

-- the closure answers the test, and stays as it was
pub returns : goal.returns
returns c = filter_same _ (begins_beyond (times_of c.args.firsts.now)) _ (λ begin b g h. (search rules, search rules)) _ _ c.retain.ensures.filtered
