use Rattle.std.proofs.Common.{◌≡◌, ◌+◌, ◌-◌, ◌++◌, drop, ap, arith, to_z-of_z}
use Rattle.std.proofs.lemmas.Fmt.{length-decimal-le}
use Rattle.std.proofs.lemmas.List.{drop-set}
use Rattle.std.proofs.lemmas.Int.{ints}
use Rattle.std.specs.Prelude.{ℤ, pos, negsuc, ◌<ℤ◌, ◌∷◌, unsigned_abs, refl}
use Rattle.std.specs.Fmt.{decimal, signed_decimal}
use Rattle.wsm_csv.proofs.from_end.write_negative.Goals as goal

-- a minus stands in front of the digits
minus_first : (z : ℤ) → z <ℤ pos 0 → 45 ∷ decimal (unsigned_abs z) ≡ signed_decimal z
minus_first (pos n) h = absurd (omega (arith, ints, h))
minus_first (negsuc n) h = refl

pub write_digits-start-requires : goal.write_digits-start-requires
write_digits-start-requires c = (omega (arith, length-decimal-le 19 c.unsigned_abs.result (omega arith) (omega arith) (omega arith), c.requires.room), c.requires.within)

pub overflow_sub-start : goal.overflow_sub-start
overflow_sub-start c = omega (arith, length-decimal-le 19 c.unsigned_abs.result (omega arith) (omega arith) (omega arith))

pub returns-clause-start : goal.returns-clause-start
returns-clause-start c = omega (arith, length-decimal-le 19 c.unsigned_abs.result (omega arith) (omega arith) (omega arith), c.write_digits-start.ensures.start)

pub returns-clause-written : goal.returns-clause-written
returns-clause-written c =
    let w = c.write_digits-start in
    let long = length-decimal-le 19 c.unsigned_abs.result (omega arith) (omega arith) (omega arith) in
    let e : w.result - 1 + 1 ≡ w.result = omega (arith, c.requires.room) in
    let back = to_z-of_z c.ranges.number in
    rw (drop-set w.new.buf (w.result - 1) 45 (omega arith), e, w.ensures.written, c.unsigned_abs.ensures.value, back)
    (ap (λ digits. digits ++ drop c.args.end c.args.cells.now) (minus_first c.args.number c.requires.negative))
