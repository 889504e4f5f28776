-- Reading the bytes of a program from the left, up to the first fault, in the version that they name.
use Rattle.std.specs.Prelude.{◌≡◌, ℕ, List, [], ◌∷◌, length, nat_lt, ok_or, Result, Ok, Err, slice_get, bytes_eq, if◌then◌else◌}
use Rattle.std.specs.Int.{w8, w16}
use Rattle.wsm_interval.specs.declared.Comparison.{Comparison}
use Rattle.wsm_record.specs.declared.Kind.{Kind}
use Rattle.wsm_record.specs.declared.words.CellType.{CellType}
use Rattle.wsm_record.specs.declared.limits.TheConstants.{MAX_SECTION}
use Rattle.wsm_record.specs.Name.{is_between}
use Rattle.wsm_record.specs.Schema.{DeclaredField, Declared, enum_names}
use Rattle.wsm_admission.specs.declared.clock.Clock.{Clock}
use Rattle.wsm_program.specs.declared.instr.FieldTest.{FieldTest}
use Rattle.wsm_program.specs.declared.instr.Instr.{Instr}
use Rattle.wsm_program.specs.declared.instr.Instr.TheVariants.{PushInt, PushBool, PushEnum, Field, Key, Acc, Count, Compute, Neg, Compare, Not, Jump, JumpIfFalse, Test, Fold, Return}
use Rattle.wsm_program.specs.declared.instr.Opcode.{Opcode}
use Rattle.wsm_program.specs.declared.instr.Opcode.TheVariants as opcodes
use Rattle.wsm_program.specs.declared.program.Costs.{Costs}
use Rattle.wsm_program.specs.declared.refusal.DecodeRefusal.{DecodeRefusal}
use Rattle.wsm_program.specs.declared.refusal.DecodeRefusal.TheVariants.{BadMagic, Version as OtherVersion, UnknownOpcode, TrailingBytes, Memory}
use Rattle.wsm_program.specs.Opcodes.{of_code}
use Rattle.wsm_program.specs.Comparisons.{comparison_of_number}
use Rattle.wsm_program.specs.Program.{Header, Program, is_name_of, is_number_field}
use Rattle.wsm_bytecode.specs.declared.version.Version.{Version}
use Rattle.wsm_bytecode.specs.declared.version.Version.TheVariants.{One, Two}
use Rattle.wsm_bytecode.specs.declared.reading.Sections.{Sections}
use Rattle.wsm_bytecode.specs.declared.reading.header.Back.{Back}
use Rattle.wsm_bytecode.specs.declared.reading.settings.Settings.{Settings as Held}
use Rattle.wsm_bytecode.specs.declared.reading.settings.Times.{Times}
use Rattle.wsm_bytecode.specs.Parts.{Settings, magic}
use Rattle.wsm_bytecode.specs.Steps.{Read, ◌>>=◌, bytes_at, number_at, signed_at, truth_at, judged, tagged, several, names_at, fields_at, times_at, kinds_at, enum_number_at, columns_at, budget_at}
use Rattle.wsm_bytecode.specs.Versions.{version_of_number}
use Rattle.wsm_bytecode.specs.Version1 as first
use Rattle.wsm_bytecode.specs.Version2 as second

-- ---- the header

-- the bytes after the magic ones; fewer than four bytes are cut off, whatever they are
unfoldable pub after_magic : List ℕ → Result (List ℕ) DecodeRefusal
after_magic bytes = do
  m ← bytes_at 4 bytes
  if bytes_eq m.0 magic then Ok m.1 else Err BadMagic

-- the version stands behind the magic bytes
unfoldable pub version_at : List ℕ → Read Version
version_at bytes = do
  numbered ← after_magic bytes
  n ← number_at w8 numbered
  v ← ok_or (version_of_number n.0) OtherVersion
  Ok (v, n.1)

abbrev pub settings_at : Version → List ℕ → Read Settings
settings_at One bytes = first.settings_at bytes
settings_at Two bytes = second.settings_at bytes

abbrev pub schema_of : List (List ℕ) → List DeclaredField → Settings → Declared
schema_of keys fields s = record { keys = keys; fields = fields; sources = s.sources }

abbrev pub clock_of : Times → Settings → Clock
clock_of t s = record { start = t.start; skew = t.skew; lateness = t.lateness; from_window = s.from_window; records = t.records }

-- what stands behind its settings: accumulators, columns and budget
unfoldable pub back_at : Declared → List ℕ → Read (List Kind × (List CellType × Costs))
back_at s bytes = do
  kinds ← kinds_at bytes
  columns ← columns_at s kinds.1
  budget ← budget_at columns.1
  Ok ((kinds.0, (columns.0, budget.0)), budget.1)

-- what stands behind the version
unfoldable pub header_at : Version → List ℕ → Read Header
header_at v bytes = do
  keys ← names_at bytes
  fields ← fields_at keys.1
  times ← times_at fields.1
  settings ← settings_at v times.1
  back ← back_at (schema_of keys.0 fields.0 settings.0) settings.1
  Ok (
    record {
      schema = schema_of keys.0 fields.0 settings.0;
      clock = clock_of times.0 settings.0;
      shape = settings.0.shape;
      mode = settings.0.mode;
      early = settings.0.early;
      late = settings.0.late;
      form = settings.0.form;
      kinds = back.0.0;
      columns = back.0.1.0;
      budget = back.0.1.1;
    },
    back.1,
  )

-- ---- instructions

unfoldable pub push_int_at : List ℕ → Read Instr
push_int_at bytes = do
  n ← signed_at bytes
  Ok (PushInt n.0, n.1)

unfoldable pub push_bool_at : List ℕ → Read Instr
push_bool_at bytes = do
  b ← truth_at bytes
  Ok (PushBool b.0, b.1)

-- the ENUM is judged at its own byte
unfoldable pub push_enum_at : Declared → List ℕ → Read Instr
push_enum_at s bytes = do
  e ← enum_number_at s bytes
  i ← judged (is_name_of (enum_names s e.0)) (number_at w16 e.1)
  Ok (PushEnum e.0 i.0, i.1)

-- a byte that is less than a count
unfoldable pub index_at : ℕ → (ℕ → Instr) → List ℕ → Read Instr
index_at count made bytes = do
  i ← judged (λ i. nat_lt i count) (number_at w8 bytes)
  Ok (made i.0, i.1)

-- a target isn't judged
unfoldable pub target_at : (ℕ → Instr) → List ℕ → Read Instr
target_at made bytes = do
  t ← number_at w16 bytes
  Ok (made t.0, t.1)

unfoldable pub comparison_at : List ℕ → Read Comparison
comparison_at bytes = tagged comparison_of_number bytes

-- a field of numbers
unfoldable pub number_field_at : List DeclaredField → List ℕ → Read ℕ
number_field_at fields bytes = judged (λ f. is_number_field (slice_get fields f)) (number_at w8 bytes)

-- the field and the comparison are judged at their own bytes
unfoldable pub field_test_at : List DeclaredField → List ℕ → Read FieldTest
field_test_at fields bytes = do
  field ← number_field_at fields bytes
  comparison ← comparison_at field.1
  number ← signed_at comparison.1
  Ok (record { field = field.0; comparison = comparison.0; number = number.0 }, number.1)

unfoldable pub test_at : List DeclaredField → List ℕ → Read Instr
test_at fields bytes = do
  x ← field_test_at fields bytes
  t ← number_at w16 x.1
  Ok (Test x.0 t.0, t.1)

-- version 1 has no test
abbrev pub test_by : Version → List DeclaredField → List ℕ → Read Instr
test_by One fields bytes = Err UnknownOpcode
test_by Two fields bytes = test_at fields bytes

-- the operands of the instruction of an opcode
unfoldable pub instr_by : Version → Header → Opcode → List ℕ → Read Instr
instr_by v h opcodes.PushInt bytes = push_int_at bytes
instr_by v h opcodes.PushBool bytes = push_bool_at bytes
instr_by v h opcodes.PushEnum bytes = push_enum_at h.schema bytes
instr_by v h opcodes.Field bytes = index_at (length h.schema.fields) Field bytes
instr_by v h opcodes.Key bytes = Ok (Key, bytes)
instr_by v h opcodes.Acc bytes = index_at (length h.kinds) Acc bytes
instr_by v h opcodes.Count bytes = Ok (Count, bytes)
instr_by v h (opcodes.Compute a) bytes = Ok (Compute a, bytes)
instr_by v h opcodes.Neg bytes = Ok (Neg, bytes)
instr_by v h (opcodes.Compare c) bytes = Ok (Compare c, bytes)
instr_by v h opcodes.Not bytes = Ok (Not, bytes)
instr_by v h opcodes.Jump bytes = target_at Jump bytes
instr_by v h opcodes.JumpIfFalse bytes = target_at JumpIfFalse bytes
instr_by v h opcodes.Test bytes = test_by v h.schema.fields bytes
instr_by v h opcodes.Fold bytes = index_at (length h.kinds) Fold bytes
instr_by v h opcodes.Return bytes = Ok (Return, bytes)

unfoldable pub instr_at : Version → Header → List ℕ → Read Instr
instr_at v h bytes = do
  c ← number_at w8 bytes
  o ← ok_or (of_code c.0) UnknownOpcode
  instr_by v h o c.1

unfoldable pub code_at : Version → Header → List ℕ → Read (List Instr)
code_at v h bytes = do
  n ← judged (is_between 0 MAX_SECTION) (number_at w16 bytes)
  several (instr_at v h) n.0 n.1

-- ---- the program

-- WHERE, UPDATE and FIRE
unfoldable pub sections_at : Version → Header → List ℕ → Read (List Instr × (List Instr × List Instr))
sections_at v h bytes = do
  selection ← code_at v h bytes
  update ← code_at v h selection.1
  fire ← code_at v h update.1
  Ok ((selection.0, (update.0, fire.0)), fire.1)

-- what stands behind the version
unfoldable pub parts_at : Version → List ℕ → Read Program
parts_at v bytes = do
  h ← header_at v bytes
  sections ← sections_at v h.0 h.1
  Ok (record { header = h.0; selection = sections.0.0; update = sections.0.1.0; fire = sections.0.1.1 }, sections.1)

unfoldable pub program_at : List ℕ → Read Program
program_at bytes = do
  v ← version_at bytes
  parts_at v.0 v.1

abbrev pub all_read : {A : Type 0} → A → List ℕ → Result A DecodeRefusal
all_read x [] = Ok x
all_read x (b ∷ bytes) = Err TrailingBytes

-- all of the bytes
unfoldable pub decode : List ℕ → Result Program DecodeRefusal
decode bytes = do
  p ← program_at bytes
  all_read p.0 p.1

-- the settings as the code holds them
abbrev pub settings_seen : Held → Settings
settings_seen s = record { shape = s.shape; from_window = s.counting.from_window; mode = s.mode; early = s.early; late = s.late; form = s.form; sources = s.sources }

abbrev pub back_seen : Back → List Kind × (List CellType × Costs)
back_seen b = (b.kinds.items, (b.columns.items, b.budget))

abbrev pub sections_seen : Sections → List Instr × (List Instr × List Instr)
sections_seen s = (s.selection.items, (s.update.items, s.fire.items))

-- ---- what a reader of the code answers: what reading gives, seen by view, unless memory ran out

abbrev pub Fails : {Y : Type 0} → DecodeRefusal → Result Y DecodeRefusal → Type 0
Fails Memory read = Unit {0}
Fails f read = read ≡ Err f

abbrev pub Gives : {X Y : Type 0} → (X → Y) → Result X DecodeRefusal → Result Y DecodeRefusal → Type 0
Gives view (Ok x) read = read ≡ Ok (view x)
Gives view (Err e) read = Fails e read
