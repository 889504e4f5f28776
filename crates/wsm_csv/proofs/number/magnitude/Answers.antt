use Rattle.std.proofs.Common.{rules, ◌+◌, ◌<◌, ◌≤◌, ◌^◌, ◌∙◌, sym, length, take, arith, get_or, take_all}
use Rattle.std.specs.List.{list_all}
use Rattle.std.proofs.lemmas.List.Folds.{list_all_more}
use Rattle.std.proofs.lemmas.Bool.{and_from}
use Rattle.wsm_record.specs.Name.{is_digit}
use Rattle.wsm_csv.specs.Number.{digits_value}
use Rattle.wsm_csv.proofs.NumberLemmas.{digits_value-more, magnitude-all, magnitude-too_large}
use Rattle.wsm_csv.proofs.number.magnitude.Goals as goal

-- the digits up to this one stand for too much
pub returns-in_err-checked_mul : goal.returns-in_err-checked_mul
returns-in_err-checked_mul c =
    let more = digits_value-more c.args.digits.now c.loop-digit.digit-index c.loop-digit-test.true in
    let most : 2 ^ 64 ≤ digits_value (take (c.loop-digit.digit-index + 1) c.args.digits.now) = omega (arith, more, c.loop-digit.invariant.value, c.in_err-checked_mul.ensures) in
    c.from_residual.ensures ∙ sym (magnitude-too_large c.args.digits.now (c.loop-digit.digit-index + 1) most)

pub returns-in_err-value : goal.returns-in_err-value
returns-in_err-value c =
    let more = digits_value-more c.args.digits.now c.loop-digit.digit-index c.loop-digit-test.true in
    let most : 2 ^ 64 ≤ digits_value (take (c.loop-digit.digit-index + 1) c.args.digits.now) = omega (arith, more, c.loop-digit.invariant.value, c.in_ok-checked_mul.ensures, c.in_err-value.ensures) in
    c.from_residual-in_err-value.ensures ∙ sym (magnitude-too_large c.args.digits.now (c.loop-digit.digit-index + 1) most)

pub loop-digit-preserved : goal.loop-digit-preserved
loop-digit-preserved c =
    let more = digits_value-more c.args.digits.now c.loop-digit.digit-index c.loop-digit-test.true in record {
      digits = list_all_more is_digit c.args.digits.now c.loop-digit.digit-index 0 c.loop-digit-test.true ∙ and_from (list_all is_digit (take c.loop-digit.digit-index c.args.digits.now)) (is_digit (get_or c.args.digits.now c.loop-digit.digit-index 0)) c.loop-digit.invariant.digits (sym c.if-not-is_ascii_digit.ensures.value);
      fits = omega (arith, c.in_ok-value.ensures);
      value = omega (arith, more, c.loop-digit.invariant.value, c.in_ok-checked_mul.ensures, c.in_ok-value.ensures);
    }

pub returns : goal.returns
returns c =
    let some : 0 < length c.args.digits.now = search rules in
    let whole = take_all c.loop-digit.digit-index c.args.digits.now (omega arith) in
    sym (magnitude-all c.args.digits.now c.loop-digit.value some (rw whole at c.loop-digit.invariant.digits) (rw whole at c.loop-digit.invariant.value) c.loop-digit.invariant.fits)
