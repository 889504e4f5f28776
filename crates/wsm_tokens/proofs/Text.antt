-- The tokens of a text from an offset on, by what stands there.
use Rattle.std.proofs.Common.{◌≡◌, ℕ, zero, suc, ◌+◌, ◌-◌, ◌<◌, ◌≤◌, Bool, true, false, cond, List, [], ◌∷◌, length, get_or, take, drop, find, nat_eq, length-append, refl, sym, ap, ◌∙◌, arith, length-drop, one-add, add-zero}
use Rattle.std.specs.Prelude.{Some}
use Rattle.std.specs.List.{prefix_len, starts_with}
use Rattle.std.proofs.lemmas.Slice.Eq.{starts_is}
use Rattle.std.proofs.lemmas.Bool.Decides.{Decides-eqb}
use Rattle.std.proofs.lemmas.Bool.{lt-ltb}
use Rattle.std.proofs.Math.Dec.{ltb}
use Rattle.std.proofs.lemmas.Bool.Decides.{nat_tests}
use Rattle.std.proofs.lemmas.List.{get_or-drop, drop-drop, drop_all}
use Rattle.std.proofs.lemmas.List.Sums.{prefix_len-le-length}
use Rattle.wsm_record.specs.Name.{is_word_byte}
use Rattle.wsm_tokens.specs.declared.fault.Fault.{Fault}
use Rattle.wsm_tokens.specs.declared.fault.Fault.TheVariants.{BadCharacter}
use Rattle.wsm_tokens.specs.declared.token.Sign.{Sign}
use Rattle.wsm_tokens.specs.declared.token.Sign.TheVariants as signs
use Rattle.wsm_tokens.specs.Tokens.{sign_of, sign_text, all_signs, Token, Word, Then, End, Bad, Found, Lost, first_of, first_word, is_blank, tokens_from, tokens_at}

-- the bytes of a token are passed over
pub passed : (n at : ℕ) (xs : List ℕ) → n ≤ length xs → tokens_from n at xs ≡ tokens_from 0 (at + n) (drop n xs)
unfolding tokens_from
passed zero at xs h = rw add-zero refl
passed (suc n) at [] h = absurd (omega arith)
passed (suc n) at (c ∷ xs) h =
    let e : (at + 1) + n ≡ at + suc n = omega arith in
    let k : n ≤ length xs = omega arith in
    passed n (at + 1) xs k ∙ ap (λ i. tokens_from 0 i (drop n xs)) e

from_blank : (at : ℕ) (xs : List ℕ) → 0 < length xs → is_blank (get_or xs 0 0) ≡ true → tokens_from 0 (at + 1) (drop 1 xs) ≡ tokens_from 0 at xs
unfolding tokens_from first_of
from_blank at [] h b = absurd (omega arith)
from_blank at (c ∷ xs) h b = rw (b, tokens_from) refl

from_token : (at : ℕ) (xs : List ℕ) (t : Token) (more : ℕ) → 1 + more ≤ length xs → first_of (get_or xs 0 0) (drop 1 xs) ≡ Found t more → tokens_from 0 at xs ≡ Then t at (tokens_from 0 (at + (1 + more)) (drop (1 + more) xs))
unfolding tokens_from
from_token at [] t more h e = absurd (omega arith)
from_token at (c ∷ xs) t more h e =
    let k : more ≤ length xs = omega arith in
    let i : (at + 1) + more ≡ at + (1 + more) = omega arith in
    rw (e, tokens_from) (rw (passed more (at + 1) xs k, i, one-add) refl)

from_fault : (at : ℕ) (xs : List ℕ) (f : Fault) (on : ℕ) → 0 < length xs → first_of (get_or xs 0 0) (drop 1 xs) ≡ Lost f on → tokens_from 0 at xs ≡ Bad f (at + on)
unfolding tokens_from
from_fault at [] f on h e = absurd (omega arith)
from_fault at (c ∷ xs) f on h e = rw (e, tokens_from) refl

pub behind_blank : (text : List ℕ) (offset : ℕ) → offset < length text → is_blank (get_or text offset 0) ≡ true → tokens_at text (offset + 1) ≡ tokens_at text offset
unfolding tokens_at
behind_blank text offset h b =
    let some : 0 < length (drop offset text) = omega (arith, length-drop offset text) in
    let first : is_blank (get_or (drop offset text) 0 0) ≡ true = rw (get_or-drop, add-zero) b in
    rw (← drop-drop 1 offset text) (from_blank offset (drop offset text) some first)

pub at_token : (text rest : List ℕ) (offset : ℕ) (t : Token) (more : ℕ) → rest ≡ drop offset text → offset ≤ length text → 1 + more ≤ length rest → first_of (get_or rest 0 0) (drop 1 rest) ≡ Found t more → ((offset + 1) + more ≤ length text) × (tokens_at text offset ≡ Then t offset (tokens_at text ((offset + 1) + more)))
unfolding tokens_at
at_token text rest offset t more r k h e =
    let i : (offset + 1) + more ≡ offset + (1 + more) = omega arith in
    let l : length rest ≡ length text - offset = rw r (length-drop offset text) in
    (omega arith, rw (i, ← drop-drop (1 + more) offset text, ← r) (from_token offset rest t more h e))

pub at_fault : (text rest : List ℕ) (offset : ℕ) (f : Fault) (on : ℕ) → rest ≡ drop offset text → on < length rest → first_of (get_or rest 0 0) (drop 1 rest) ≡ Lost f on → tokens_at text offset ≡ Bad f (offset + on)
unfolding tokens_at
at_fault text rest offset f on r h e = rw (← r) (from_fault offset rest f on (omega arith) e)

pub at_end : (text : List ℕ) (offset : ℕ) → length text ≤ offset → tokens_at text offset ≡ End offset
unfolding tokens_at tokens_from
at_end text offset h = rw (drop_all offset text h) refl

pub word_found : (text : List ℕ) (more : ℕ) → 0 < length text → more ≡ prefix_len is_word_byte (drop 1 text) → more ≤ 31 → (1 + more ≤ length text) × (Unit {0}) × (first_word (get_or text 0 0) (drop 1 text) (prefix_len is_word_byte (drop 1 text)) ≡ Found (Word (take (1 + more) text)) more)
word_found [] more h p k = absurd (omega arith)
word_found (c ∷ text) more h p k =
    let short : more ≤ length text = omega (arith, prefix_len-le-length is_word_byte text) in
    let e = lt-ltb more 32 (omega arith) in
    (omega arith, tt, rw (← p, e, one-add) refl)

pub word_lost : (text : List ℕ) (more : ℕ) → 0 < length text → more ≡ prefix_len is_word_byte (drop 1 text) → 31 < more → (32 < length text) × (first_word (get_or text 0 0) (drop 1 text) (prefix_len is_word_byte (drop 1 text)) ≡ Lost BadCharacter 32)
word_lost [] more h p k = absurd (omega arith)
word_lost (c ∷ text) more h p k =
    let short : more ≤ length text = omega (arith, prefix_len-le-length is_word_byte text) in
    let e : ltb more 32 ≡ false = grind (arith, nat_tests) in
    (omega arith, rw (← p, e) refl)

passes : (p : Sign → Bool) (ss : List Sign) (s : Sign) → find p ss ≡ Some s → p s ≡ true
passes p [] s e = cc
passes p (x ∷ ss) s e =
    elim (p x) as (λ b. p x ≡ b → cond b (Some x) (find p ss) ≡ Some s → p s ≡ true) [
      | true ↦ λ h k. let same : x ≡ s = cc in rw (← same) h
      | false ↦ λ h k. passes p ss s k
    ] refl e

-- a sign is no longer than the text that begins with it
pub sign_fits : (text : List ℕ) (s : Sign) → sign_of text ≡ Some s → length (sign_text s) ≤ length text
unfolding sign_of
sign_fits text s e =
    let p = passes (λ s. starts_with nat_eq text (sign_text s)) all_signs s e in
    let b = (starts_is {E = nat_eq} Decides-eqb text (sign_text s) true (sym p)).0 refl in
    let l = ap length b in
    omega (arith, simp length-append at l)

pub sign_some : (s : Sign) → 1 ≤ length (sign_text s)
sign_some signs.Comma = omega arith
sign_some signs.Semicolon = omega arith
sign_some signs.Open = omega arith
sign_some signs.Close = omega arith
sign_some signs.Dot = omega arith
sign_some signs.DotDot = omega arith
sign_some signs.Plus = omega arith
sign_some signs.Minus = omega arith
sign_some signs.Star = omega arith
sign_some signs.Slash = omega arith
sign_some signs.Percent = omega arith
sign_some signs.Equal = omega arith
sign_some signs.NotEqual = omega arith
sign_some signs.Less = omega arith
sign_some signs.LessOrEqual = omega arith
sign_some signs.Greater = omega arith
sign_some signs.GreaterOrEqual = omega arith
