-- Tokens that are written with a space between each two are read back as they are.
use Rattle.std.proofs.Common.{◌≡◌, ℕ, suc, ◌+◌, ◌^◌, ◌<◌, Bool, true, false, ◌&&◌, List, [], ◌∷◌, ◌++◌, length, leb, pos, negsuc, refl, ap, ◌∙◌, arith, add-zero, append-nil}
use Rattle.std.specs.Prelude.{Option, Some, None}
use Rattle.std.specs.List.{prefix_len, list_all}
use Rattle.std.specs.Fmt.{decimal}
use Rattle.std.proofs.lemmas.Bool.{and_parts, lt-ltb, leb-true}
use Rattle.std.proofs.lemmas.Bool.Decides.{nat_tests}
use Rattle.std.proofs.lemmas.Fmt.{decimal_nonempty}
use Rattle.std.proofs.Math.Seq.{take-append_seam}
use Rattle.wsm_record.specs.Name.{is_letter, is_digit, is_word_byte}
use Rattle.wsm_record.specs.declared.limits.TheConstants.{MAX_NAME}
use Rattle.wsm_tokens.specs.declared.token.Sign.{Sign}
use Rattle.wsm_tokens.specs.declared.token.Sign.TheVariants as signs
use Rattle.wsm_tokens.specs.Tokens.{Token, Word, Mark, Number, Then, End, Found, sign_text, sign_of, is_blank, number_limit, first_of, tokens_from, tokens}
use Rattle.wsm_tokens.specs.Written.{token_text, written, bare, put}
use Rattle.wsm_tokens.specs.Proper.{is_proper, are_proper}
use Rattle.wsm_tokens.proofs.Decimals.{Digits, decimal_digits}

-- what stands behind a token: nothing, or a space and more
abbrev spaced : Option (List ℕ) → List ℕ
spaced None = []
spaced (Some text) = 32 ∷ text

stops : (p : ℕ → Bool) (o : Option (List ℕ)) → p 32 ≡ false → prefix_len p (spaced o) ≡ 0
stops p None h = refl
stops p (Some text) h = rw h refl

-- bytes that pass, up to one that doesn't
passing : (p : ℕ → Bool) (w : List ℕ) (o : Option (List ℕ)) → p 32 ≡ false → list_all p w ≡ true → prefix_len p (w ++ spaced o) ≡ length w
passing p [] o h all = stops p o h
passing p (c ∷ w) o h all =
    let a = and_parts (p c) (list_all p w) all in
    rw (a.0, passing p w o h a.1) (omega arith)

letter_is_dark : (c : ℕ) → is_letter c ≡ true → is_blank c ≡ false
letter_is_dark c h = grind (arith, nat_tests)

digit_is_dark : (c : ℕ) → is_digit c ≡ true → is_blank c ≡ false
digit_is_dark c h = grind (arith, nat_tests)

digit_is_no_letter : (c : ℕ) → is_digit c ≡ true → is_letter c ≡ false
digit_is_no_letter c h = grind (arith, nat_tests)

word_read : (c : ℕ) (w : List ℕ) (o : Option (List ℕ)) → is_proper (Word (c ∷ w)) ≡ true → first_of c (w ++ spaced o) ≡ Found (Word (c ∷ w)) (length w)
unfolding first_of
word_read c w o proper =
    let a = and_parts (is_letter c && list_all is_word_byte w) (leb (length (c ∷ w)) MAX_NAME) proper in
    let b = and_parts (is_letter c) (list_all is_word_byte w) a.0 in
    let short = lt-ltb (length w) MAX_NAME (omega (arith, leb-true (length (c ∷ w)) MAX_NAME a.1)) in
    rw (letter_is_dark c b.0, b.0, passing is_word_byte w o refl b.1, short, take-append_seam w (spaced o)) refl

number_read : (n c : ℕ) (w : List ℕ) (o : Option (List ℕ)) → leb n number_limit ≡ true → Digits n (c ∷ w) → first_of c (w ++ spaced o) ≡ Found (Number (pos n)) (length w)
unfolding first_of
number_read n c w o small d =
    let b = and_parts (is_digit c) (list_all is_digit w) d.digits in
    rw (digit_is_dark c b.0, digit_is_no_letter c b.0, b.0, passing is_digit w o refl b.1, take-append_seam w (spaced o), d.value, small) refl

-- a text and what is behind it begin with the token that is all of the text
abbrev IsRead : Token → List ℕ → List ℕ → Type 0
IsRead u [] rest = ⊥
IsRead u (c ∷ w) rest = first_of c (w ++ rest) ≡ Found u (length w)

sign_read : (s : Sign) (o : Option (List ℕ)) → IsRead (Mark s) (sign_text s) (spaced o)
unfolding first_of sign_of
sign_read signs.Comma None = refl
sign_read signs.Comma (Some text) = refl
sign_read signs.Semicolon None = refl
sign_read signs.Semicolon (Some text) = refl
sign_read signs.Open None = refl
sign_read signs.Open (Some text) = refl
sign_read signs.Close None = refl
sign_read signs.Close (Some text) = refl
sign_read signs.Dot None = refl
sign_read signs.Dot (Some text) = refl
sign_read signs.DotDot None = refl
sign_read signs.DotDot (Some text) = refl
sign_read signs.Plus None = refl
sign_read signs.Plus (Some text) = refl
sign_read signs.Minus None = refl
sign_read signs.Minus (Some text) = refl
sign_read signs.Star None = refl
sign_read signs.Star (Some text) = refl
sign_read signs.Slash None = refl
sign_read signs.Slash (Some text) = refl
sign_read signs.Percent None = refl
sign_read signs.Percent (Some text) = refl
sign_read signs.Equal None = refl
sign_read signs.Equal (Some text) = refl
sign_read signs.NotEqual None = refl
sign_read signs.NotEqual (Some text) = refl
sign_read signs.Less None = refl
sign_read signs.Less (Some text) = refl
sign_read signs.LessOrEqual None = refl
sign_read signs.LessOrEqual (Some text) = refl
sign_read signs.Greater None = refl
sign_read signs.Greater (Some text) = refl
sign_read signs.GreaterOrEqual None = refl
sign_read signs.GreaterOrEqual (Some text) = refl

figures_read : (n : ℕ) (ds : List ℕ) (o : Option (List ℕ)) → leb n number_limit ≡ true → 0 < length ds → Digits n ds → IsRead (Number (pos n)) ds (spaced o)
figures_read n [] o small some d = omega arith
figures_read n (c ∷ w) o small some d = number_read n c w o small d

token_read : (u : Token) (o : Option (List ℕ)) → is_proper u ≡ true → IsRead u (token_text u) (spaced o)
token_read (Word []) o h = cc
token_read (Word (c ∷ w)) o h = word_read c w o h
token_read (Mark s) o h = sign_read s o
token_read (Number (pos n)) o h =
    let small : n < 2 ^ 64 = omega (arith, leb-true n number_limit h) in
    figures_read n (decimal n) o h (decimal_nonempty n small) (decimal_digits n small)
token_read (Number (negsuc n)) o h = cc

-- the bytes of a token are passed over
passed : (w rest : List ℕ) (at : ℕ) → tokens_from (length w) at (w ++ rest) ≡ tokens_from 0 (at + length w) rest
unfolding tokens_from
passed [] rest at = rw add-zero refl
passed (c ∷ w) rest at =
    let e : (at + 1) + length w ≡ at + suc (length w) = omega arith in
    passed w rest (at + 1) ∙ ap (λ i. tokens_from 0 i rest) e

from_read : (u : Token) (text rest : List ℕ) (at : ℕ) → IsRead u text rest → tokens_from 0 at (text ++ rest) ≡ Then u at (tokens_from 0 (at + length text) rest)
unfolding tokens_from
from_read u [] rest at h = absurd h
from_read u (c ∷ w) rest at h =
    let e : (at + 1) + length w ≡ at + suc (length w) = omega arith in
    rw (h, tokens_from) (rw (passed w rest (at + 1), e) refl)

-- a proper token before the end of the text or a space
pub from_token : (u : Token) (o : Option (List ℕ)) (at : ℕ) → is_proper u ≡ true → tokens_from 0 at (token_text u ++ spaced o) ≡ Then u at (tokens_from 0 (at + length (token_text u)) (spaced o))
from_token u o at h = from_read u (token_text u) (spaced o) at (token_read u o h)

from_space : (at : ℕ) (text : List ℕ) → tokens_from 0 at (32 ∷ text) ≡ tokens_from 0 (at + 1) text
unfolding tokens_from first_of
from_space at text = refl

read_from : (us : List Token) (at : ℕ) → are_proper us ≡ true → bare (tokens_from 0 at (written us)) ≡ put us (End 0)
unfolding bare written tokens_from
read_from [] at h = refl
read_from (u ∷ []) at h =
    let a = and_parts (is_proper u) true h in
    let e = ap bare (from_token u None at a.0) in
    rw append-nil at e
read_from (u ∷ v ∷ us) at h =
    let a = and_parts (is_proper u) (are_proper (v ∷ us)) h in
    let text = written (v ∷ us) in
    rw (from_token u (Some text) at a.0, from_space (at + length (token_text u)) text, bare, read_from (v ∷ us) (at + length (token_text u) + 1) a.1) refl

pub read_back : (us : List Token) → are_proper us ≡ true → bare (tokens (written us)) ≡ put us (End 0)
unfolding tokens
read_back us h = read_from us 0 h
