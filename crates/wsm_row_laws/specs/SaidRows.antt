-- The rows of a log's lines as a run over rows reads them: the event that each line says, and a fault where it says none.
use Rattle.std.specs.Prelude.{◌≡◌, ◌<◌, ℕ, Bool, true, false, ◌&&◌, List, [], ◌∷◌, length, map, nat_lt, Option, Some, None, Ok, Err, reverse, ⊤}
use Rattle.wsm_record.specs.declared.event.Value.{Value}
use Rattle.wsm_record.specs.declared.event.Value.TheVariants as values
use Rattle.wsm_record.specs.declared.event.RowFault.TheVariants.{BadTag}
use Rattle.wsm_record.specs.Event.{Record, Watermark}
use Rattle.wsm_record.specs.Schema.{Declared, DeclaredField, FieldType, Int, Truth, Enum, is_i64}
use Rattle.wsm_semantics.specs.Lines.{Row}
use Rattle.wsm_csv.specs.Cells.{event_of_cells}
use Rattle.wsm_csv.specs.Records.{AreAll}
use Rattle.wsm_lines.specs.Said.{said_of}
use Rattle.wsm_lines.specs.declared.source.Source.{Source}
use Rattle.wsm_log_rows.specs.Rows.{Said, rows_of}

-- what lines say, the newest first
abbrev pub said : Source → Declared → List (List ℕ) → List Said
said s d [] = []
said s d (line ∷ before) = said_of s d before line ∷ said s d before

-- ---- what rows can say

-- a value of the type of its field, whether it lies in the field's interval or not
abbrev pub is_of_type : FieldType → Value → Bool
is_of_type (Int lo hi) (values.Int n) = is_i64 n
is_of_type Truth (values.Bool b) = true
is_of_type (Enum names) (values.Enum i) = nat_lt i (length names)
is_of_type _ _ = false

-- one value for each field, of its type
abbrev pub are_of_types : List DeclaredField → List Value → Bool
are_of_types [] [] = true
are_of_types (f ∷ fs) (v ∷ vs) = is_of_type f.type v && are_of_types fs vs
are_of_types _ _ = false

-- a declared key, or none
abbrev pub IsKey : Declared → Option ℕ → Type 0
IsKey d None = ⊤
IsKey d (Some key) = key < length d.keys

-- what a line says can be said by a row: it is no watermark, and its key and its values are of what is declared
abbrev pub IsSayable : Declared → Said → Type 0
IsSayable d (Ok (Record key time values)) = IsKey d key × (is_i64 time ≡ true) × (are_of_types d.fields values ≡ true)
IsSayable d (Ok (Watermark source time)) = ⊥
IsSayable d (Err why) = ⊤

abbrev pub AreSayable : Declared → List Said → Type 0
AreSayable d [] = ⊤
AreSayable d (x ∷ before) = IsSayable d x × AreSayable d before

-- ---- how they are read

-- a line that says no event is a row of no event
abbrev pub row_said : Said → Row
row_said (Ok e) = Ok e
row_said (Err why) = Err BadTag

-- the rows that are written for lines are read by `csv` as these, and say what the lines say
pub record AreReadBack (s : Source) (d : Declared) (lines : List (List ℕ)) (rows : List (List (List ℕ))) : Type 0 where
  pub all : AreAll (Some (rows_of s d lines)) rows
  pub events : reverse (map (event_of_cells d) rows) ≡ map row_said (said s d (reverse lines))
