use Rattle.std.proofs.Common.{◌∙◌, ◌+◌, ◌-◌, length, take, get_or, arith}
use Rattle.std.specs.List.{list_all}
use Rattle.std.proofs.lemmas.List.Folds.{list_all_more}
use Rattle.std.proofs.lemmas.Bool.{and_from, le-leb}
use Rattle.wsm_record.specs.Name.{is_digit}
use Rattle.wsm_csv.proofs.NumberLemmas.{below-longer, below-more, value_from-more}
use Rattle.wsm_csv.proofs.number.magnitude_from.Goals as goal

pub overflow_mul-value : goal.overflow_mul-value
overflow_mul-value c =
    let below = below-longer c.loop-byte.value (18 - length c.args.digits.now + c.loop-byte.byte-index) 17 c.loop-byte.invariant.below (omega (arith, c.requires.few, c.loop-byte-test.true)) in
    omega (arith, below)

pub overflow_add-value : goal.overflow_add-value
overflow_add-value c =
    let below = below-longer c.loop-byte.value (18 - length c.args.digits.now + c.loop-byte.byte-index) 17 c.loop-byte.invariant.below (omega (arith, c.requires.few, c.loop-byte-test.true)) in
    omega (arith, below, c.if-digit-gt9.false)

pub loop-byte-preserved : goal.loop-byte-preserved
loop-byte-preserved c =
    let digits = c.args.digits.now in
    let i = c.loop-byte.byte-index in
    let digit = c.above_zero-digit.ensures in
    let more = value_from-more c.args.front digits i c.loop-byte-test.true in record {
      digits = list_all_more is_digit digits i 0 c.loop-byte-test.true ∙ and_from (list_all is_digit (take i digits)) (is_digit (get_or digits i 0)) c.loop-byte.invariant.digits (digit.digit ∙ le-leb c.above_zero-digit.result 9 c.if-digit-gt9.false);
      below = below-more c.loop-byte.value c.above_zero-digit.result (18 - length digits + i) (18 - length digits + (i + 1)) (omega arith) c.loop-byte.invariant.below c.if-digit-gt9.false;
      value = omega (arith, more, c.loop-byte.invariant.value, digit.value c.if-digit-gt9.false);
    }

pub returns-clause-below : goal.returns-clause-below
returns-clause-below c = below-longer c.loop-byte.value (18 - length c.args.digits.now + c.loop-byte.byte-index) 18 c.loop-byte.invariant.below (omega (arith, c.requires.few, c.loop-byte.auto.byte-index-end))
