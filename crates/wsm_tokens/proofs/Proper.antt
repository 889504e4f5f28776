-- Which tokens are proper: names, and all that a text has.
use Rattle.std.proofs.Common.{◌≡◌, ℕ, zero, suc, ◌+◌, Bool, true, List, [], ◌∷◌, length, take, leb, pos, refl, arith, one-add}
use Rattle.std.specs.Prelude.{Option, Some, None}
use Rattle.std.specs.List.{prefix_len, list_all}
use Rattle.std.proofs.lemmas.Bool.{cond_both, ltb-true, le-leb}
use Rattle.std.proofs.Math.Dec.{ltb}
use Rattle.std.proofs.lemmas.List.Folds.{length-prefix_len}
use Rattle.wsm_record.specs.Name.{is_letter, is_digit, is_word_byte}
use Rattle.wsm_record.specs.declared.limits.TheConstants.{MAX_NAME}
use Rattle.wsm_tokens.specs.declared.token.Sign.{Sign}
use Rattle.wsm_tokens.specs.Tokens.{Word, Number, Then, Bad, First, Blank, Found, Lost, sign_of, is_blank, value_of, number_limit, first_of, first_word, first_number, first_sign, tokens_from, tokens}
use Rattle.wsm_tokens.specs.Proper.{is_proper, has_proper}

passing : (p : ℕ → Bool) (xs : List ℕ) → list_all p (take (prefix_len p xs) xs) ≡ true
passing p [] = refl
passing p (c ∷ xs) =
    cond_both (p c) (1 + prefix_len p xs) 0 (λ n. list_all p (take n (c ∷ xs)) ≡ true) (λ e. rw (one-add, e, passing p xs) refl) (λ e. refl)

-- what a text begins with is no token, or a proper one
abbrev begins_proper : First → Bool
begins_proper Blank = true
begins_proper (Found t more) = is_proper t
begins_proper (Lost fault on) = true

word_is_proper : (c : ℕ) (text : List ℕ) → is_letter c ≡ true → begins_proper (first_word c text (prefix_len is_word_byte text)) ≡ true
word_is_proper c text e =
    let m = prefix_len is_word_byte text in
    let long = λ (h : ltb m MAX_NAME ≡ true). le-leb (length (c ∷ take m text)) MAX_NAME (omega (arith, ltb-true m MAX_NAME h, length-prefix_len is_word_byte text)) in
    cond_both (ltb m MAX_NAME) (Found (Word (c ∷ take m text)) m) _ (λ f. begins_proper f ≡ true) (λ h. rw (e, passing is_word_byte text, long h) refl) (λ h. refl)

figures_are_proper : (value more : ℕ) → begins_proper (first_number value more) ≡ true
figures_are_proper value more = cond_both (leb value number_limit) (Found (Number (pos value)) more) _ (λ f. begins_proper f ≡ true) (λ h. h) (λ h. refl)

sign_is_proper : (o : Option Sign) → begins_proper (first_sign o) ≡ true
sign_is_proper None = refl
sign_is_proper (Some s) = refl

first_is_proper : (c : ℕ) (text : List ℕ) → begins_proper (first_of c text) ≡ true
unfolding first_of
first_is_proper c text =
    let P = λ (f : First). begins_proper f ≡ true in
    let n = prefix_len is_digit text in
    cond_both (is_blank c) _ _ P (λ h. refl) (λ h.
    cond_both (is_letter c) _ _ P (word_is_proper c text) (λ h.
    cond_both (is_digit c) _ _ P (λ h. figures_are_proper (value_of (c ∷ take n text)) n) (λ h. sign_is_proper (sign_of (c ∷ text)))))

pub from_proper : (behind at : ℕ) (text : List ℕ) → has_proper (tokens_from behind at text) ≡ true
unfolding tokens_from has_proper
from_proper behind at [] = refl
from_proper (suc behind) at (c ∷ text) = from_proper behind (at + 1) text
from_proper zero at (c ∷ text) =
    elim (first_of c text) as (λ f. begins_proper f ≡ true → has_proper (elim f [
      | Blank ↦ tokens_from zero (at + 1) text
      | Found token more ↦ Then token at (tokens_from more (at + 1) text)
      | Lost fault on ↦ Bad fault (at + on)
    ]) ≡ true) [
      | Blank ↦ λ h. from_proper zero (at + 1) text
      | Found token more ↦ λ h. rw (h, from_proper more (at + 1) text) refl
      | Lost fault on ↦ λ h. refl
    ] (first_is_proper c text)

pub tokens_are_proper : (text : List ℕ) → has_proper (tokens text) ≡ true
unfolding tokens
tokens_are_proper text = from_proper 0 0 text
