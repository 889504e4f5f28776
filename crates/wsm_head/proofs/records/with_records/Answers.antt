use Rattle.wsm_head.specs.StandsFor.{program_with}
use Rattle.wsm_head.proofs.records.with_records.Goals as goal

pub returns : goal.returns
returns c = c.refused.ensures (program_with c.args.records c.args.verified)
