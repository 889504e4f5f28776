-- Words and what they stand for. Of a word that comes twice the first entry counts.
use Rattle.std.specs.Prelude.{ℕ, ◌++◌, List, [], ◌∷◌, if◌then◌else◌, Option, Some, None, bytes_eq, nat_eq}
use Rattle.std.specs.List.{starts_with}
use Rattle.wsm_lines.specs.declared.table.Entry.{Entry}

abbrev pub entry_with : List ℕ → ℕ → Entry
entry_with word number = record { word = word; number = number }

-- the number of a word: of its first entry
abbrev pub number_in : List Entry → List ℕ → Option ℕ
number_in [] text = None
number_in (entry ∷ entries) text = if bytes_eq text entry.word then Some entry.number else number_in entries text

-- the number of the first entry that a text begins with
abbrev pub number_begun : List Entry → List ℕ → Option ℕ
number_begun [] text = None
number_begun (entry ∷ entries) text = if starts_with nat_eq text entry.word then Some entry.number else number_begun entries text

abbrev pub unless_there : List Entry → Entry → Option ℕ → List Entry
unless_there entries entry None = entries ++ entry ∷ []
unless_there entries entry (Some number) = entries

-- entries with one more, where its word isn't there yet
abbrev pub added : List Entry → Entry → List Entry
added entries entry = unless_there entries entry (number_in entries entry.word)
