use Rattle.csv.specs.Reading.{default_config, strip_bom}
use Rattle.csv.specs.declared.parser.State.TheVariants as st
use Rattle.wsm_kept.proofs.Back.{unique}
use Rattle.wsm_kept.proofs.laws.read_alike.Goals as goal

pub returns : goal.returns
returns c = λ bytes rows others h k. unique default_config st.StartRecord (strip_bom bytes) rows others h k
