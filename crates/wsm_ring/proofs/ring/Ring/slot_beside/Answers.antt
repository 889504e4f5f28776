use Rattle.std.proofs.Common.{rules, ap, arith}
use Rattle.wsm_ring.specs.Ring.{row_of}
use Rattle.wsm_ring.proofs.Apart.{same_time}
use Rattle.wsm_ring.proofs.ring.Ring.slot_beside.Goals as goal

pub returns-then-place-known : goal.returns-then-place-known
returns-then-place-known c =
    let start = same_time c.args.place.start c.args.known.start (search rules) (search rules) c.if-place-known.true in
    omega (arith, c.requires.known.slot, ap (row_of c.args.self) start)
