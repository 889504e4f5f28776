use Rattle.std.proofs.Common.{refl}
use Rattle.wsm_live.proofs.cuts.replace_by_head.Goals as goal

pub replace-requires-clause-records : goal.replace-requires-clause-records
replace-requires-clause-records g c = (c.in-Ok-true.ensures.is_record c.in-Ok-true.field-0-test, refl, tt)
