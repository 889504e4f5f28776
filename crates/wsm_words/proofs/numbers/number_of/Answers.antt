use Rattle.std.proofs.Common.{◌≡◌, ℕ, Result, Ok, Err, Some, sym, ap, ◌∙◌}
use Rattle.std.specs.Result.{result_ok}
use Rattle.std.proofs.lemmas.Fmt.{parse-decimal}
use Rattle.std.proofs.lemmas.Slice.Eq.{bytes_eq-Decides}
use Rattle.std.specs.Fmt.{decimal}
use Rattle.wsm_words.proofs.numbers.number_of.Goals as goal

-- what is read of a number's digits is the number
read_number : {E : Type 0} (r : Result ℕ E) (number : ℕ) → r ≡ Ok number → result_ok r ≡ Some number
read_number (Ok n) number ok = cc
read_number (Err e) number ok = cc

pub returns-in_err-number-clause-none : goal.returns-in_err-number-clause-none
returns-in_err-number-clause-none c = λ _ number few is.
    let some = read_number c.parse.result number (parse-decimal 64 number c.args.word.now c.parse.result few few is c.parse.ensures.value.0) in
    let none = c.in_err-number.ensures.value in
    absurd cc

pub returns-else-eq-clause-none : goal.returns-else-eq-clause-none
returns-else-eq-clause-none c = λ _ number few is.
    let some = read_number c.parse.result number (parse-decimal 64 number c.args.word.now c.parse.result few few is c.parse.ensures.value.0) in
    let read = c.in_ok-number.ensures.value in
    let same : c.in_ok-number.number ≡ number = cc in
    let written : c.format.result.now ≡ c.args.word.now = c.format.ensures.text ∙ (ap decimal same ∙ sym is) in
    let equal = (bytes_eq-Decides c.format.result.now c.args.word.now).1 written in
    let other = c.if-eq.ensures in
    absurd cc
