use Rattle.wsm_compiler.proofs.Sizes.{sizes_are_lengths}
use Rattle.wsm_compiler.proofs.laws.sizes_are_lengths.Goals as goal

pub returns : goal.returns
returns c = sizes_are_lengths
