use Rattle.wsm_fold.proofs.Bags.{fold_by-append}
use Rattle.wsm_fold.proofs.Rows.{joins_assoc}
use Rattle.wsm_fold.proofs.accumulators.Folded.merge.Goals as goal

pub returns-clause-bag : goal.returns-clause-bag
returns-clause-bag c xs ys e f =
    rw (c.fold.ensures.joined, c.values.ensures) (fold_by-append _ (joins_assoc c.args.kinds.now) _ _ xs ys e f)
