use Rattle.wsm_compiler.proofs.ColumnLabels.{labels_are_ranges}
use Rattle.wsm_compiler.proofs.laws.labels_are_ranges.Goals as goal

pub returns : goal.returns
returns c = labels_are_ranges
