-- The names that lines of a log teach, and what lines say by names. Lines that came before have the newest first.
use Rattle.std.specs.Prelude.{◌≡◌, ℕ, List, [], ◌∷◌, ◌++◌, Result, is_ok, if◌then◌else◌}
use Rattle.wsm_record.specs.Event.{Event}
use Rattle.wsm_record.specs.Schema.{Declared}
use Rattle.wsm_key_names.specs.Reading.{by_names, learned_of}
use Rattle.wsm_lines.specs.declared.fault.LineFault.{LineFault}
use Rattle.wsm_lines.specs.declared.source.Source.{Source}
use Rattle.wsm_lines.specs.Key.{key_text_of, no_names}
use Rattle.wsm_lines.specs.Said.{said_of}

-- the names once a line came behind others: one that says an event, which no name has a part in, teaches the text of its key, whatever becomes of
-- the record, and one that is no event teaches none
abbrev pub names_after_line : ℕ → Source → List (List ℕ) → List (List ℕ) → List ℕ → List (List ℕ)
names_after_line most s names before line = if is_ok (said_of s no_names before line) then learned_of most names (key_text_of s before line) else names

-- and once lines came, where these names were there first
abbrev pub names_after_lines : ℕ → Source → List (List ℕ) → List (List ℕ) → List (List ℕ)
names_after_lines most s names [] = names
names_after_lines most s names (line ∷ before) = names_after_line most s (names_after_lines most s names before) before line

-- what each of some lines says
abbrev pub said_by : Source → Declared → List (List ℕ) → List (Result Event LineFault)
said_by s d [] = []
said_by s d (line ∷ before) = said_of s d before line ∷ said_by s d before

-- what each of them says by the names so far, its own among them
abbrev pub read_in_turn : ℕ → Source → Declared → List (List ℕ) → List (List ℕ) → List (Result Event LineFault)
read_in_turn most s d names [] = []
read_in_turn most s d names (line ∷ before) =
    said_of s (by_names (names_after_lines most s names (line ∷ before)) d) before line ∷ read_in_turn most s d names before

-- which is what they say by all names that ever come
abbrev pub ReadsByAll : Type 0
ReadsByAll = (most : ℕ) (s : Source) (d : Declared) (names lines : List (List ℕ)) →
    read_in_turn most s d names lines ≡ said_by s (by_names (names_after_lines most s names lines) d) lines

-- a reading of one line, whatever comes later
abbrev pub StaysRead : Type 0
StaysRead = (most : ℕ) (s : Source) (d : Declared) (names later : List (List ℕ)) (line : List ℕ) (before : List (List ℕ)) →
    said_of s (by_names (names_after_lines most s names (later ++ line ∷ before)) d) before line
    ≡ said_of s (by_names (names_after_lines most s names (line ∷ before)) d) before line

-- and a reading of all lines so far
abbrev pub KeepsSaid : Type 0
KeepsSaid = (most : ℕ) (s : Source) (d : Declared) (names later before : List (List ℕ)) →
    said_by s (by_names (names_after_lines most s names (later ++ before)) d) before ≡ said_by s (by_names (names_after_lines most s names before) d) before
