-- The rows that the lines of a log are by a source: one row for each line, as a run over rows takes them. This project's own form.
use Rattle.std.specs.Prelude.{◌≡◌, ◌⊎◌, ℕ, true, false, List, [], ◌∷◌, ◌++◌, Option, Some, None, Result, Ok, Err, codes, reverse}
use Rattle.std.specs.Fmt.{signed_decimal}
use Rattle.std.specs.Io.KnownBytes.{Appends}
use Rattle.wsm_record.specs.declared.event.Value.{Value}
use Rattle.wsm_record.specs.declared.event.Value.TheVariants as values
use Rattle.wsm_record.specs.Event.{Event, Record, Watermark}
use Rattle.wsm_record.specs.Schema.{Declared, DeclaredField, FieldType, Int, Truth, Enum}
use Rattle.wsm_semantics.specs.Text.{name_at}
use Rattle.wsm_csv.specs.Device.{TakesPart}
use Rattle.wsm_lines.specs.Fault.{fault_word}
use Rattle.wsm_lines.specs.Said.{said_of}
use Rattle.wsm_lines.specs.Reader.{Follows}
use Rattle.wsm_lines.specs.declared.source.Source.{Source}
use Rattle.wsm_log.specs.LinesOf.{AreAll, AreFirst}
use Rattle.wsm_log_rows.specs.declared.rows.RowWriter.{RowWriter}
use Rattle.wsm_log_rows.specs.declared.end.LogEnd.{LogEnd}
use Rattle.wsm_log_rows.specs.declared.end.LogEnd.TheVariants as ends
use Rattle.wsm_lines.specs.declared.fault.LineFault.{LineFault}

-- what a line says: an event, or none
abbrev pub Said : Type 0
Said = Result Event LineFault

-- the cell of a value; a number that stands for no name has no byte
abbrev pub value_text : FieldType → Value → List ℕ
value_text type (values.Int n) = signed_decimal n
value_text type (values.Bool true) = codes "true"
value_text type (values.Bool false) = codes "false"
value_text (Enum names) (values.Enum i) = name_at names i
value_text type (values.Enum i) = []

-- the cells of values, each behind a comma
abbrev pub values_text : List DeclaredField → List Value → List ℕ
values_text (f ∷ fs) (v ∷ vs) = 44 ∷ value_text f.type v ++ values_text fs vs
values_text _ _ = []

-- a key that isn't declared has no byte
abbrev pub key_text : Declared → Option ℕ → List ℕ
key_text d None = []
key_text d (Some key) = name_at d.keys key

-- the row of a record; a source says no watermark
abbrev pub event_row : Declared → Event → List ℕ
event_row d (Record key time values) = codes "r," ++ key_text d key ++ 44 ∷ signed_decimal time ++ values_text d.fields values ++ 10 ∷ []
event_row d (Watermark source time) = []

-- the row of a line: a line that is no event is `unread` with the word of its fault
abbrev pub row_text : Declared → Said → List ℕ
row_text d (Ok e) = event_row d e
row_text d (Err why) = codes "unread," ++ fault_word why ++ 10 ∷ []

-- the rows of lines, the newest first
abbrev pub rows_before : Source → Declared → List (List ℕ) → List ℕ
rows_before s d [] = []
rows_before s d (line ∷ before) = rows_before s d before ++ row_text d (said_of s d before line)

-- those of lines, the oldest first
abbrev pub rows_of : Source → Declared → List (List ℕ) → List ℕ
rows_of s d lines = rows_before s d (reverse lines)

-- all lines were read, and their rows written
pub record RowsWritten (known : Option (List ℕ)) (s : Source) (d : Declared) (old new : Option (List ℕ)) (lines : List (List ℕ)) : Type 0 where
  pub all : AreAll s.longest known lines
  pub text : Appends old new (rows_of s d lines)

-- the first lines were read, and their rows written
pub record RowsBroken (known : Option (List ℕ)) (s : Source) (d : Declared) (old new : Option (List ℕ)) (lines : List (List ℕ)) : Type 0 where
  pub first : AreFirst s.longest known lines
  pub text : Appends old new (rows_of s d lines)

-- the first lines were read, and a beginning of their rows written
pub record RowsPart (known : Option (List ℕ)) (s : Source) (d : Declared) (old new : Option (List ℕ)) (lines : List (List ℕ)) : Type 0 where
  pub first : AreFirst s.longest known lines
  pub part : TakesPart old new (rows_of s d lines)

abbrev pub RowsEnd : Option (List ℕ) → Source → Declared → Option (List ℕ) → Option (List ℕ) → List (List ℕ) → LogEnd → Type 0
RowsEnd known s d old new lines ends.Memory = RowsBroken known s d old new lines
RowsEnd known s d old new lines ends.ReadFailed = RowsBroken known s d old new lines
RowsEnd known s d old new lines ends.WriteFailed = RowsPart known s d old new lines

-- the writer has read these lines, the newest first
abbrev pub HasRead : Source → RowWriter → List (List ℕ) → Type 0
HasRead s w before = Follows s before w.reader

-- one line more was read, and the bytes are its row
pub record Rows (s : Source) (d : Declared) (new : RowWriter) (before : List (List ℕ)) (line : List ℕ) : Type 0 where
  pub reads : HasRead s new (line ∷ before)
  pub text : new.text.items ≡ row_text d (said_of s d before line)

-- these lines were read, and their rows written
pub record HasWritten (s : Source) (d : Declared) (lines : List (List ℕ)) (old now : Option (List ℕ)) (w : RowWriter) : Type 0 where
  pub reads : HasRead s w (reverse lines)
  pub text : Appends old now (rows_of s d lines)
