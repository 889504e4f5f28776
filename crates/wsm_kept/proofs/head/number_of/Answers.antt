use Rattle.std.proofs.Common.{◌∙◌, ◌<◌, ◌≤◌, ◌^◌, ℕ, refl, sym, subst, arith}
use Rattle.std.proofs.lemmas.Fmt.{IsAscii-decimal, parse-decimal}
use Rattle.std.proofs.lemmas.Str.{IsUtf8-from_ascii}
use Rattle.std.specs.Fmt.{decimal}
use Rattle.std.specs.Prelude.{IsUtf8}
use Rattle.wsm_kept.proofs.head.number_of.Goals as goal

small : (n : ℕ) → n ≤ 18446744073709551615 → n < 2 ^ 64
small n h = omega (arith, h)

pub returns-in-Ok : goal.returns-in-Ok
returns-in-Ok c = λ n fits is.
    c.unwrap_or.ensures ∙ rw (parse-decimal 64 n c.in-Ok.text.now c.parse.result (small n fits) (small n fits) (c.in-Ok.ensures.cases.0 ∙ is) c.parse.ensures.value.0) refl

pub returns-in-Err : goal.returns-in-Err
returns-in-Err c = λ n fits is. absurd (c.in-Err.ensures.cases.0 (subst IsUtf8 (sym is) (IsUtf8-from_ascii (decimal n) (IsAscii-decimal n (small n fits)))))
