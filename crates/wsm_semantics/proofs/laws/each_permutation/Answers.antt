use Rattle.std.proofs.Common.{◌++◌}
use Rattle.wsm_semantics.proofs.Blocks.{reordered-block, reordered-before}
use Rattle.wsm_semantics.proofs.laws.each_permutation.Goals as goal

pub returns : goal.returns
returns c newer xs ys older none permuted = reordered-before newer (xs ++ older) (ys ++ older) (reordered-block older xs ys none permuted)
