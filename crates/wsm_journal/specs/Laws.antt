-- What is asked of bytes behind whole records, in the laws of journals.
use Rattle.std.specs.Prelude.{◌≡◌, ◌⊎◌, ◌<◌, ◌^◌, nat_lt, true, Bool, ℕ, List, [], ◌∷◌, ◌++◌, drop, length, None}
use Rattle.std.specs.List.{list_all}
use Rattle.wsm_journal.specs.Text.{Entry, journal_text, record_text}
use Rattle.wsm_journal.specs.Reading.{Reading, read_journal, reading_with, whole_at}
use Rattle.wsm_journal.specs.declared.reading.Behind.{Behind}
use Rattle.wsm_journal.specs.declared.reading.Behind.TheVariants.{Nothing, Torn}

-- at no place of some bytes stands a line that has the sum of the bytes in front of it
abbrev pub FitsNoSum : List ℕ → Type 0
FitsNoSum text = (at : ℕ) → whole_at text at ≡ None

abbrev pub torn_of : List ℕ → Behind
torn_of [] = Nothing
torn_of (byte ∷ text) = Torn

-- all of some records, with these bytes behind them that are no record
abbrev pub read_as : List Entry → List ℕ → Reading
read_as entries torn = reading_with entries (length (journal_text entries)) (torn_of torn)

-- the bytes of a text behind those of some records
abbrev pub behind_records : List Entry → List ℕ → List ℕ
behind_records entries text = drop (length (journal_text entries)) text

-- a text reads as some records with one more or without it, where the bytes behind them are that one's or fit no sum
abbrev pub IsBeforeOrAfter : List Entry → Entry → List ℕ → Type 0
IsBeforeOrAfter entries more text =
    (behind_records entries text ≡ record_text more) ⊎ FitsNoSum (behind_records entries text)
    → (read_journal text ≡ read_as (entries ++ more ∷ []) []) ⊎ (read_journal text ≡ read_as entries (behind_records entries text))

abbrev pub are_bytes : List ℕ → Bool
are_bytes bytes = list_all (λ byte. nat_lt byte 256) bytes

-- a record that is made of bytes and of numbers of 64 bits
pub record IsOfBytes (e : Entry) : Type 0 where
  pub rows : are_bytes e.rows ≡ true
  pub position : are_bytes e.position ≡ true
  pub number : e.number < 2 ^ 64
  pub lines : e.lines < 2 ^ 64
  pub size : length e.rows < 2 ^ 64
