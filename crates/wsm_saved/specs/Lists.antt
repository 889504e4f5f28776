-- The texts of lists and of one or none, and what a text is read as.
use Rattle.std.specs.Prelude.{◌≡◌, ℕ, ◌<◌, ◌^◌, ◌==◌, zero, suc, List, [], ◌∷◌, ◌++◌, length, if◌then◌else◌, Option, Some, None, option_map, option_and_then}
use Rattle.wsm_journal.specs.Reading.{number_of}
use Rattle.wsm_saved.specs.Numbers.{number_text, read_byte}

-- the texts of some values, one behind the other
abbrev pub texts : {A : Type 0} → (A → List ℕ) → List A → List ℕ
texts text [] = []
texts text (x ∷ xs) = text x ++ texts text xs

-- a list: how many there are, and each
abbrev pub list_text : {A : Type 0} → (A → List ℕ) → List A → List ℕ
list_text text xs = number_text (length xs) ++ texts text xs

-- one or none
abbrev pub option_text : {A : Type 0} → (A → List ℕ) → Option A → List ℕ
option_text text None = number_text 0
option_text text (Some x) = number_text 1 ++ text x

-- so many values, one behind the other
abbrev pub read_some : {A : Type 0} → (List ℕ → Option (A × List ℕ)) → ℕ → List ℕ → Option (List A × List ℕ)
read_some read zero text = Some ([], text)
read_some read (suc n) text = option_and_then (λ p. option_map (λ q. (p.0 ∷ q.0, q.1)) (read_some read n p.1)) (read text)

abbrev pub read_list : {A : Type 0} → (List ℕ → Option (A × List ℕ)) → List ℕ → Option (List A × List ℕ)
read_list read text = option_and_then (λ p. read_some read p.0 p.1) (number_of text)

abbrev pub read_option : {A : Type 0} → (List ℕ → Option (A × List ℕ)) → List ℕ → Option (Option A × List ℕ)
read_option read text = option_and_then (λ p. if p.0 == 0 then Some (None, p.1) else if p.0 == 1 then option_map (λ q. (Some q.0, q.1)) (read p.1) else None) (number_of text)

-- each of some values fits
abbrev pub EachFits : {A : Type 0} → (A → Type 0) → List A → Type 0
EachFits Fits [] = Unit {0}
EachFits Fits (x ∷ xs) = Fits x × EachFits Fits xs

-- they do, and so does their count
abbrev pub ListFits : {A : Type 0} → (A → Type 0) → List A → Type 0
ListFits Fits xs = (length xs < 2 ^ 64) × EachFits Fits xs

abbrev pub OptionFits : {A : Type 0} → (A → Type 0) → Option A → Type 0
OptionFits Fits None = Unit {0}
OptionFits Fits (Some x) = Fits x

-- the text of each value is read as that value
pub record ReadsBack {A : Type 0} (text : A → List ℕ) (read : List ℕ → Option (A × List ℕ)) (Fits : A → Type 0) : Type 0 where
  pub back : (x : A) (rest : List ℕ) → Fits x → read (text x ++ rest) ≡ Some (x, rest)

-- bytes: how many there are, and each
abbrev pub bytes_text : List ℕ → List ℕ
bytes_text bytes = list_text number_text bytes

abbrev pub read_bytes : List ℕ → Option (List ℕ × List ℕ)
read_bytes text = read_list read_byte text

abbrev pub BytesFit : List ℕ → Type 0
BytesFit bytes = ListFits (λ n. n < 2 ^ 8) bytes
