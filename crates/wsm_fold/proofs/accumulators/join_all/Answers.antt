use Rattle.std.proofs.Common.{◌≡◌, arith, add-one, length}
use Rattle.wsm_fold.proofs.Rows.{joined_up_to_more, joined_up_to_all, joined_up_to_rest, fits_at}
use Rattle.wsm_fold.proofs.accumulators.join_all.Goals as goal

pub join_in-requires : goal.join_in-requires
join_in-requires c =
    rw c.loop-i.invariant (fits_at c.loop-i.i c.args.kinds.now c.args.places.now c.args.values.now _ _ _ (record { kinds = c.requires.kinds; places = c.requires.places }) c.loop-i-test.true c.requires.sums)

pub loop-i-preserved : goal.loop-i-preserved
loop-i-preserved c =
    rw (c.join_in.ensures, c.loop-i.invariant, add-one) (joined_up_to_more c.loop-i.i c.args.kinds.now c.args.places.now c.args.values.now _ _ _ (record { kinds = c.requires.kinds; places = c.requires.places }) c.loop-i-test.true)

pub returns-clause-joined : goal.returns-clause-joined
returns-clause-joined c =
    let all : c.loop-i.i ≡ length c.args.values.now = omega arith in
    rw (c.loop-i.invariant, all) (joined_up_to_all c.args.kinds.now c.args.places.now c.args.values.now (record { kinds = c.requires.kinds; places = c.requires.places }))

pub returns-clause-rest : goal.returns-clause-rest
returns-clause-rest c =
    let all : c.loop-i.i ≡ length c.args.values.now = omega arith in
    rw (c.loop-i.invariant, all) (joined_up_to_rest (length c.args.values.now) c.args.kinds.now c.args.places.now c.args.values.now)
