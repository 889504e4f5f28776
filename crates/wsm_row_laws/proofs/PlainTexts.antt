-- Texts that `csv` writes without quotes.
use Rattle.std.proofs.Common.{◌≡◌, ℕ, zero, suc, Bool, true, false, List, [], ◌∷◌, ◌++◌, refl, arith}
use Rattle.std.specs.Prelude.{slice_index_or, ℤ, pos, negsuc}
use Rattle.std.specs.List.{AllByRecursion, list_all, list_any}
use Rattle.std.specs.Fmt.{decimal, signed_decimal}
use Rattle.std.proofs.lemmas.Bool.{and_parts}
use Rattle.std.proofs.lemmas.Bool.Decides.{nat_tests}
use Rattle.csv.specs.Writing.{default_writer, field_text, fields_text, needs_byte}
use Rattle.wsm_record.specs.Name.{is_digit, is_letter, is_name, is_word, is_word_byte}
use Rattle.wsm_record.specs.Schema.{is_i64}
use Rattle.wsm_row_laws.proofs.NumberTexts.{numeral, small_neg, small_pos}

-- no byte of a text calls for quotes
abbrev pub IsPlain : List ℕ → Type 0
IsPlain text = list_any (needs_byte default_writer) text ≡ false

abbrev needs : ℕ → Bool
needs b = needs_byte default_writer b

word_needs : (b : ℕ) → is_word_byte b ≡ true → needs b ≡ false
word_needs b is = grind (arith, nat_tests, is)

digit_needs : (b : ℕ) → is_digit b ≡ true → needs b ≡ false
digit_needs b is = grind (arith, nat_tests, is)

digits_plain : (ds : List ℕ) → list_all is_digit ds ≡ true → IsPlain ds
digits_plain [] h = refl
digits_plain (b ∷ bs) h =
    let parts = and_parts (is_digit b) (list_all is_digit bs) h in
    rw (digit_needs b parts.0, digits_plain bs parts.1) refl

words_plain : (bs : List ℕ) → list_all is_word_byte bs ≡ true → IsPlain bs
words_plain [] h = refl
words_plain (b ∷ bs) h =
    let parts = and_parts (is_word_byte b) (list_all is_word_byte bs) h in
    rw (word_needs b parts.0, words_plain bs parts.1) refl

pub number_plain : (z : ℤ) → is_i64 z ≡ true → IsPlain (signed_decimal z)
number_plain (pos n) h = digits_plain (decimal n) (numeral n (small_pos n h)).digits
number_plain (negsuc n) h = digits_plain (decimal (suc n)) (numeral (suc n) (small_neg n h)).digits

letter_word : (c : ℕ) → is_letter c ≡ true → is_word_byte c ≡ true
letter_word c is = rw is refl

pub name_plain : (name : List ℕ) → is_name name ≡ true → IsPlain name
name_plain [] h = refl
name_plain (c ∷ cs) h =
    let word = (and_parts (is_word (c ∷ cs)) _ h).0 in
    let parts = and_parts (is_letter c) (list_all is_word_byte cs) word in
    rw (word_needs c (letter_word c parts.0), words_plain cs parts.1) refl

-- the name of a number, or no byte
pub name_at_plain : (names : List (List ℕ)) (i : ℕ) → list_all is_name names ≡ true → IsPlain (slice_index_or names i [])
name_at_plain [] i h = refl
name_at_plain (n ∷ ns) zero h = name_plain n (and_parts (is_name n) (list_all is_name ns) h).0
name_at_plain (n ∷ ns) (suc i) h = name_at_plain ns i (and_parts (is_name n) (list_all is_name ns) h).1

pub field_plain : (text : List ℕ) → IsPlain text → field_text default_writer text ≡ text
field_plain text h = rw h refl

-- cells behind another, each behind a comma
abbrev pub behind_commas : List (List ℕ) → List ℕ
behind_commas [] = []
behind_commas (cell ∷ cells) = 44 ∷ cell ++ behind_commas cells

pub fields_plain : (cells : List (List ℕ)) → AllByRecursion IsPlain cells → fields_text default_writer cells ≡ behind_commas cells
unfolding fields_text
fields_plain [] h = refl
fields_plain (cell ∷ cells) h = rw (field_plain cell h.0, fields_plain cells h.1) refl
