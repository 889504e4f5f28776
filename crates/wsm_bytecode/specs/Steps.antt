-- Reading the parts of a program that are the same in each version, from the left, up to the first fault.
use Rattle.std.specs.Prelude.{◌==◌, ℕ, zero, suc, Bool, not, List, [], ◌∷◌, ◌++◌, length, take, drop, ℤ, pos, int_le, nat_lt, is_some, Option, ok_or, Result, Ok, Err, if◌then◌else◌}
use Rattle.std.specs.Int.{Width, w8, w16, w64, byte_len, from_le_bytes, cast_signed}
use Rattle.wsm_record.specs.declared.words.CellType.{CellType}
use Rattle.wsm_record.specs.declared.words.CellType.TheVariants as types
use Rattle.wsm_record.specs.declared.Kind.{Kind}
use Rattle.wsm_record.specs.declared.Mode.{Mode}
use Rattle.wsm_record.specs.declared.Form.{Form}
use Rattle.wsm_record.specs.declared.limits.TheConstants.{MAX_ACCUMULATORS, MAX_COLUMNS, MAX_FIELDS, MAX_NAME, MAX_NAMES, MAX_PANES}
use Rattle.wsm_record.specs.Modes.{may_write}
use Rattle.wsm_record.specs.Name.{is_between, is_name, is_among}
use Rattle.wsm_record.specs.Schema.{FieldType, Int, Truth, Enum, DeclaredField, Declared, is_within, enum_names}
use Rattle.wsm_windows.specs.declared.Shape.{Shape}
use Rattle.wsm_windows.specs.declared.Shape.TheVariants.{Fixed, Sliding, Session}
use Rattle.wsm_program.specs.declared.refusal.DecodeRefusal.{DecodeRefusal}
use Rattle.wsm_program.specs.declared.refusal.DecodeRefusal.TheVariants.{Truncated, Operand}
use Rattle.wsm_program.specs.declared.program.Costs.{Costs}
use Rattle.wsm_program.specs.Program.{Name, is_span, is_size, is_stated, is_time}
use Rattle.wsm_bytecode.specs.declared.reading.settings.Times.{Times}
use Rattle.wsm_bytecode.specs.declared.tags.TypeTag.{TypeTag}
use Rattle.wsm_bytecode.specs.declared.tags.TypeTag.TheVariants as of
use Rattle.wsm_bytecode.specs.Tags.{mode_by, form_by, kind_by, type_by}

-- a value and the bytes after it, or the first fault
abbrev pub Read : Type 0 → Type 0
Read A = Result (A × List ℕ) DecodeRefusal

infixl 10 ◌>>=◌
abbrev pub ◌>>=◌ : {A B : Type 0} → Result A DecodeRefusal → (A → Result B DecodeRefusal) → Result B DecodeRefusal
(Ok x) >>= f = f x
(Err e) >>= f = Err e

abbrev pub bytes_at : ℕ → List ℕ → Read (List ℕ)
bytes_at n bytes = if nat_lt (length bytes) n then Err Truncated else Ok (take n bytes, drop n bytes)

abbrev pub number_at : Width → List ℕ → Read ℕ
number_at w bytes = do
  b ← bytes_at (byte_len w) bytes
  Ok (from_le_bytes w b.0, b.1)

abbrev pub signed_at : List ℕ → Read ℤ
signed_at bytes = do
  n ← number_at w64 bytes
  Ok (cast_signed w64 n.0, n.1)

-- a value is judged once its last byte was read
abbrev pub judged : {A : Type 0} → (A → Bool) → Read A → Read A
judged good read = do
  x ← read
  if good x.0 then Ok x else Err Operand

-- 0 or 1
unfoldable pub truth_at : List ℕ → Read Bool
truth_at bytes = do
  n ← judged (is_between 0 1) (number_at w8 bytes)
  Ok (n.0 == 1, n.1)

-- the one that a byte stands for
abbrev pub tagged : {A : Type 0} → (ℕ → Option A) → List ℕ → Read A
tagged by bytes = do
  tag ← number_at w8 bytes
  x ← ok_or (by tag.0) Operand
  Ok (x, tag.1)

-- so many, one after the other, each by what was kept of those before
abbrev pub in_turn : {S A : Type 0} → (S → A → S) → (S → List ℕ → Read A) → S → ℕ → List ℕ → Read (List A)
in_turn keep one kept zero bytes = Ok ([], bytes)
in_turn keep one kept (suc n) bytes = do
  first ← one kept bytes
  others ← in_turn keep one (keep kept first.0) n first.1
  Ok (first.0 ∷ others.0, others.1)

abbrev pub several : {A : Type 0} → (List ℕ → Read A) → ℕ → List ℕ → Read (List A)
several one n bytes = in_turn {S = Unit {0}} (λ kept x. kept) (λ kept. one) tt n bytes

-- the length is judged at its own byte
unfoldable pub name_at : List ℕ → Read Name
name_at bytes = do
  n ← judged (is_between 1 MAX_NAME) (number_at w8 bytes)
  judged is_name (bytes_at n.0 n.1)

-- a name that is none of those before
abbrev pub new_name_at : List Name → List ℕ → Read Name
new_name_at before bytes = judged (λ x. not (is_among x before)) (name_at bytes)

-- so many names, none of them one of those before
abbrev pub names_after : List Name → ℕ → List ℕ → Read (List Name)
names_after before n bytes = in_turn (λ names x. names ++ x ∷ []) new_name_at before n bytes

unfoldable pub names_at : List ℕ → Read (List Name)
names_at bytes = do
  n ← judged (is_between 1 MAX_NAMES) (number_at w16 bytes)
  names_after [] n.0 n.1

-- two numbers are judged together at the later one
unfoldable pub interval_at : List ℕ → Read FieldType
interval_at bytes = do
  lo ← signed_at bytes
  hi ← judged (λ hi. int_le lo.0 hi) (signed_at lo.1)
  Ok (Int lo.0 hi.0, hi.1)

unfoldable pub enum_at : List ℕ → Read FieldType
enum_at bytes = do
  ns ← names_at bytes
  Ok (Enum ns.0, ns.1)

unfoldable pub type_tag_at : List ℕ → Read TypeTag
type_tag_at bytes = tagged type_by bytes

abbrev pub field_type_by : TypeTag → List ℕ → Read FieldType
field_type_by of.Int bytes = interval_at bytes
field_type_by of.Bool bytes = Ok (Truth, bytes)
field_type_by of.Enum bytes = enum_at bytes

unfoldable pub field_type_at : List ℕ → Read FieldType
field_type_at bytes = do
  tag ← type_tag_at bytes
  field_type_by tag.0 tag.1

-- a field whose name is none of those before
unfoldable pub new_field_at : List Name → List ℕ → Read DeclaredField
new_field_at before bytes = do
  name ← new_name_at before bytes
  type ← field_type_at name.1
  Ok (record { name = name.0; type = type.0 }, type.1)

abbrev pub fields_after : List Name → ℕ → List ℕ → Read (List DeclaredField)
fields_after before n bytes = in_turn (λ names f. names ++ f.name ∷ []) new_field_at before n bytes

unfoldable pub fields_at : List ℕ → Read (List DeclaredField)
fields_at bytes = do
  n ← judged (is_between 0 MAX_FIELDS) (number_at w8 bytes)
  fields_after [] n.0 n.1

-- a number of sources that there may be, and their names
unfoldable pub sources_at : (ℕ → Bool) → List ℕ → Read (List Name)
sources_at may_be bytes = do
  n ← judged may_be (number_at w8 bytes)
  names_after [] n.0 n.1

unfoldable pub times_at : List ℕ → Read Times
times_at bytes = do
  start ← judged is_time (signed_at bytes)
  skew ← judged is_span (signed_at start.1)
  lateness ← judged is_span (signed_at skew.1)
  records ← judged is_size (signed_at lateness.1)
  Ok (record { start = start.0; skew = skew.0; lateness = lateness.0; records = records.0 }, records.1)

unfoldable pub fixed_at : List ℕ → Read Shape
fixed_at bytes = do
  size ← judged is_size (signed_at bytes)
  Ok (Fixed size.0, size.1)

unfoldable pub sliding_at : List ℕ → Read Shape
sliding_at bytes = do
  size ← judged is_size (signed_at bytes)
  period ← judged (is_within (pos 1) size.0) (signed_at size.1)
  Ok (Sliding size.0 period.0, period.1)

unfoldable pub session_at : List ℕ → Read Shape
session_at bytes = do
  gap ← judged is_size (signed_at bytes)
  Ok (Session gap.0, gap.1)

abbrev pub shape_by : ℕ → List ℕ → Read Shape
shape_by zero bytes = fixed_at bytes
shape_by (suc zero) bytes = sliding_at bytes
shape_by _ bytes = session_at bytes

-- the shape of a tag, and what lateness is counted from
unfoldable pub windows_by : Bool → ℕ → List ℕ → Read (Shape × Bool)
windows_by from_window tag bytes = do
  s ← shape_by tag bytes
  Ok ((s.0, from_window), s.1)

unfoldable pub mode_at : List ℕ → Read Mode
mode_at bytes = tagged mode_by bytes

-- the form of a tag, which the mode may write
abbrev pub form_of : Mode → ℕ → Result Form DecodeRefusal
form_of m n = do
  form ← ok_or (form_by n) Operand
  if may_write m form then Ok form else Err Operand

-- EARLY, then LATE
unfoldable pub triggers_at : List ℕ → Read (ℤ × ℤ)
triggers_at bytes = do
  early ← judged is_span (signed_at bytes)
  late ← judged is_span (signed_at early.1)
  Ok ((early.0, late.0), late.1)

unfoldable pub kind_at : List ℕ → Read Kind
kind_at bytes = tagged kind_by bytes

unfoldable pub kinds_at : List ℕ → Read (List Kind)
kinds_at bytes = do
  n ← judged (is_between 0 MAX_ACCUMULATORS) (number_at w8 bytes)
  several kind_at n.0 n.1

-- an ENUM that there is
unfoldable pub enum_number_at : Declared → List ℕ → Read ℕ
enum_number_at s bytes = judged (λ e. is_some (enum_names s e)) (number_at w8 bytes)

unfoldable pub enum_column_at : Declared → List ℕ → Read CellType
enum_column_at s bytes = do
  e ← enum_number_at s bytes
  Ok (types.Enum e.0, e.1)

abbrev pub column_by : Declared → TypeTag → List ℕ → Read CellType
column_by s of.Int bytes = Ok (types.Int, bytes)
column_by s of.Bool bytes = Ok (types.Bool, bytes)
column_by s of.Enum bytes = enum_column_at s bytes

unfoldable pub column_at : Declared → List ℕ → Read CellType
column_at s bytes = do
  tag ← type_tag_at bytes
  column_by s tag.0 tag.1

unfoldable pub columns_at : Declared → List ℕ → Read (List CellType)
columns_at s bytes = do
  n ← judged (is_between 1 MAX_COLUMNS) (number_at w8 bytes)
  several (column_at s) n.0 n.1

unfoldable pub budget_at : List ℕ → Read Costs
budget_at bytes = do
  per_record ← judged is_stated (number_at w64 bytes)
  per_pane ← judged is_stated (number_at w64 per_record.1)
  held ← judged (is_between 1 MAX_PANES) (number_at w64 per_pane.1)
  Ok (record { per_record = per_record.0; per_pane = per_pane.0; held = held.0 }, held.1)
