-- What was written comes back, whatever stands behind it.
use Rattle.std.proofs.Common.{◌≡◌, ◌∙◌, ℕ, ◌<◌, ◌^◌, ◌==◌, List, [], ◌∷◌, ◌++◌, length, Bool, true, false, Option, Some, None, option_map, option_and_then, refl, sym, ap, arith, append_assoc}
use Rattle.std.specs.Prelude.{ℤ, FitsSigned}
use Rattle.std.specs.Int.{cast_signed, cast_unsigned, w64}
use Rattle.std.specs.Fmt.{decimal}
use Rattle.std.proofs.lemmas.Int.{to_z-of_z, ints}
use Rattle.std.proofs.lemmas.Bool.Decides.{nat_tests}
use Rattle.wsm_journal.specs.Reading.{number_of}
use Rattle.wsm_journal.proofs.Decimals.{decimal_read}
use Rattle.wsm_saved.specs.Numbers.{below, flag_text, number_text, read_below, read_byte, read_flag, read_signed, signed_text}
use Rattle.wsm_saved.specs.Lists.{BytesFit, EachFits, ListFits, OptionFits, ReadsBack, bytes_text, list_text, option_text, read_bytes, read_list, read_option, read_some, texts}

pub number_back : (n : ℕ) (rest : List ℕ) → n < 2 ^ 64 → number_of (number_text n ++ rest) ≡ Some (n, rest)
unfolding number_text
number_back n rest fits = ap number_of (append_assoc (decimal n) (44 ∷ []) rest) ∙ decimal_read n rest fits

bits_fit : (z : ℤ) → FitsSigned w64 z → cast_unsigned w64 z < 2 ^ 64
bits_fit z fits = omega (arith, ints)

pub signed_back : (z : ℤ) (rest : List ℕ) → FitsSigned w64 z → read_signed (signed_text z ++ rest) ≡ Some (z, rest)
signed_back z rest fits =
    ap (λ o. option_map (λ p. (cast_signed w64 p.0, p.1)) o) (number_back (cast_unsigned w64 z) rest (bits_fit z fits))
    ∙ ap (λ x. Some (x, rest)) (to_z-of_z w64 z fits)

pub flag_back : (b : Bool) (rest : List ℕ) → read_flag (flag_text b ++ rest) ≡ Some (b, rest)
flag_back true rest = rw (number_back 1 rest (omega arith)) refl
flag_back false rest = rw (number_back 0 rest (omega arith)) refl

pub below_back : (most n : ℕ) (rest : List ℕ) → n < most → n < 2 ^ 64 → read_below most (number_text n ++ rest) ≡ Some (n, rest)
below_back most n rest small fits =
    let is : below most n ≡ Some n = grind (arith, nat_tests) in
    rw (number_back n rest fits, is) refl

pub some_back : {A : Type 0} (text : A → List ℕ) (read : List ℕ → Option (A × List ℕ)) (Fits : A → Type 0) → ReadsBack text read Fits
    → (xs : List A) (rest : List ℕ) → EachFits Fits xs → read_some read (length xs) (texts text xs ++ rest) ≡ Some (xs, rest)
some_back text read Fits law [] rest fits = refl
some_back text read Fits law (x ∷ xs) rest fits =
    let more = some_back text read Fits law xs rest fits.1 in
    let first = law.back x (texts text xs ++ rest) fits.0 in
    ap (λ t. option_and_then (λ p. option_map (λ q. (p.0 ∷ q.0, q.1)) (read_some read (length xs) p.1)) (read t)) (append_assoc (text x) (texts text xs) rest)
    ∙ ap (λ o. option_and_then (λ p. option_map (λ q. (p.0 ∷ q.0, q.1)) (read_some read (length xs) p.1)) o) first
    ∙ ap (λ o. option_map (λ q. (x ∷ q.0, q.1)) o) more

pub list_back : {A : Type 0} (text : A → List ℕ) (read : List ℕ → Option (A × List ℕ)) (Fits : A → Type 0) → ReadsBack text read Fits
    → (xs : List A) (rest : List ℕ) → ListFits Fits xs → read_list read (list_text text xs ++ rest) ≡ Some (xs, rest)
list_back text read Fits law xs rest fits =
    ap (λ t. read_list read t) (append_assoc (number_text (length xs)) (texts text xs) rest)
    ∙ ap (λ o. option_and_then (λ p. read_some read p.0 p.1) o) (number_back (length xs) (texts text xs ++ rest) fits.0)
    ∙ some_back text read Fits law xs rest fits.1

pub option_back : {A : Type 0} (text : A → List ℕ) (read : List ℕ → Option (A × List ℕ)) (Fits : A → Type 0) → ReadsBack text read Fits
    → (o : Option A) (rest : List ℕ) → OptionFits Fits o → read_option read (option_text text o ++ rest) ≡ Some (o, rest)
option_back text read Fits law None rest fits = rw (number_back 0 rest (omega arith)) refl
option_back text read Fits law (Some x) rest fits = rw (append_assoc (number_text 1) (text x) rest, number_back 1 (text x ++ rest) (omega arith), law.back x rest fits) refl

-- the laws of the types
pub number_reads_back : ReadsBack number_text number_of (λ n. n < 2 ^ 64)
number_reads_back = record { back = number_back }

pub byte_back : (n : ℕ) (rest : List ℕ) → n < 2 ^ 8 → read_byte (number_text n ++ rest) ≡ Some (n, rest)
byte_back n rest fits = below_back (2 ^ 8) n rest fits (omega arith)

pub byte_reads_back : ReadsBack number_text read_byte (λ n. n < 2 ^ 8)
byte_reads_back = record { back = byte_back }

pub list_reads_back : {A : Type 0} (text : A → List ℕ) (read : List ℕ → Option (A × List ℕ)) (Fits : A → Type 0) → ReadsBack text read Fits
    → ReadsBack (list_text text) (read_list read) (ListFits Fits)
list_reads_back text read Fits law = record { back = list_back text read Fits law }

pub bytes_back : (bytes rest : List ℕ) → BytesFit bytes → read_bytes (bytes_text bytes ++ rest) ≡ Some (bytes, rest)
bytes_back bytes rest fits = list_back number_text read_byte (λ n. n < 2 ^ 8) byte_reads_back bytes rest fits

pub option_reads_back : {A : Type 0} (text : A → List ℕ) (read : List ℕ → Option (A × List ℕ)) (Fits : A → Type 0) → ReadsBack text read Fits
    → ReadsBack (option_text text) (read_option read) (OptionFits Fits)
option_reads_back text read Fits law = record { back = option_back text read Fits law }
