use Rattle.wsm_fold.specs.Fold.{joins}
use Rattle.wsm_fold.proofs.Bags.{fold_by-permuted}
use Rattle.wsm_fold.proofs.Rows.{joins_comm, joins_assoc}
use Rattle.wsm_fold.proofs.laws.in_any_order.Goals as goal

pub returns : goal.returns
returns c kinds xs ys h = fold_by-permuted (joins kinds) (joins_assoc kinds) (joins_comm kinds) xs ys h
