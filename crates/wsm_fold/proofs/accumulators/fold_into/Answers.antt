use Rattle.std.proofs.Common.{◌≡◌, length, arith}
use Rattle.wsm_fold.proofs.Rows.{length-are_of_kinds, filled_up}
use Rattle.wsm_fold.proofs.accumulators.fold_into.Goals as goal

pub join_all-requires-clause-kinds : goal.join_all-requires-clause-kinds
join_all-requires-clause-kinds c =
    omega (arith, length-are_of_kinds c.args.kinds.now c.args.values.now c.requires.types)

pub join_all-requires-clause-places : goal.join_all-requires-clause-places
join_all-requires-clause-places c =
    omega (arith, length-are_of_kinds c.args.kinds.now c.args.values.now c.requires.types, length-are_of_kinds c.args.kinds.now c.args.held.now c.requires.held)

pub returns : goal.returns
returns c =
    let all : length c.args.held.now ≡ length c.args.values.now = omega (arith, length-are_of_kinds c.args.kinds.now c.args.values.now c.requires.types, length-are_of_kinds c.args.kinds.now c.args.held.now c.requires.held) in
    filled_up (length c.args.values.now) c.args.held.now _ _ all c.join_all.ensures.joined c.join_all.ensures.rest
