-- The line and the column, as searches for line feeds give them.
use Rattle.std.proofs.Common.{◌≡◌, ℕ, ◌+◌, ◌-◌, Bool, true, false, not, List, length, refl, sym, ap, ◌∙◌, arith}
use Rattle.std.specs.Prelude.{Some, None}
use Rattle.std.specs.List.{suffix_len}
use Rattle.std.proofs.Math.Nat.{sub-zero}
use Rattle.std.proofs.lemmas.List.Sums.{suffix_len_is}
use Rattle.memchr.specs.Find.{IsLastByte, is_byte}
use Rattle.wsm_tokens.specs.Position.{is_line_feed}

-- what is not true is false
fails : (b : Bool) → (b ≡ true → ⊥) → not b ≡ true
fails true h = absurd (h refl)
fails false h = refl

pub behind_last : (text : List ℕ) (end : ℕ) → IsLastByte (is_byte 10) text (Some end) → length text - (end + 1) ≡ suffix_len (λ c. not (is_line_feed c)) text
behind_last text end h =
    let p = λ (c : ℕ). not (is_line_feed c) in
    sym (suffix_len_is p text (end + 1) 0 (omega (arith, h.0.high)) (λ k a b. fails _ (h.0.after k a b)) (λ _. let e : end + 1 - 1 ≡ end = omega arith in rw e (ap not h.1)))

pub behind_none : (text : List ℕ) → IsLastByte (is_byte 10) text None → length text ≡ suffix_len (λ c. not (is_line_feed c)) text
behind_none text h =
    let p = λ (c : ℕ). not (is_line_feed c) in
    sym (suffix_len_is p text 0 0 (omega arith) (λ k a b. fails _ (h k a b)) (λ z. absurd (omega arith)) ∙ sub-zero (length text))
