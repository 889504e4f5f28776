-- How the parts of a program are spelled as bytes. Numbers stand with their lowest byte first.
use Rattle.std.specs.Prelude.{ℕ, Bool, List, [], ◌++◌, length, ℤ, codes}
use Rattle.std.specs.List.{flat_map}
use Rattle.std.specs.Int.{w8, w16, w64, to_le_bytes, cast_unsigned}
use Rattle.wsm_record.specs.declared.words.CellType.{CellType}
use Rattle.wsm_record.specs.declared.words.CellType.TheVariants as types
use Rattle.wsm_record.specs.declared.Kind.{Kind}
use Rattle.wsm_record.specs.declared.Mode.{Mode}
use Rattle.wsm_record.specs.declared.Form.{Form}
use Rattle.wsm_record.specs.Schema.{FieldType, Int, Truth, Enum, DeclaredField}
use Rattle.wsm_windows.specs.declared.Shape.{Shape}
use Rattle.wsm_windows.specs.declared.Shape.TheVariants.{Fixed, Sliding, Session}
use Rattle.wsm_admission.specs.declared.clock.Clock.{Clock}
use Rattle.wsm_program.specs.declared.instr.Instr.{Instr}
use Rattle.wsm_program.specs.declared.instr.Argument.{Argument}
use Rattle.wsm_program.specs.declared.instr.Argument.TheVariants as arguments
use Rattle.wsm_program.specs.declared.program.Costs.{Costs}
use Rattle.wsm_program.specs.Program.{Name, Header}
use Rattle.wsm_program.specs.Instructions as table
use Rattle.wsm_program.specs.Instructions.{truth}
use Rattle.wsm_program.specs.Comparisons.{comparison_number}
use Rattle.wsm_bytecode.specs.declared.tags.TypeTag.TheVariants as of
use Rattle.wsm_bytecode.specs.Tags.{mode_tag, kind_tag, type_tag}

abbrev pub byte : ℕ → List ℕ
byte n = to_le_bytes w8 n

abbrev pub number : ℕ → List ℕ
number n = to_le_bytes w16 n

unfoldable pub long : ℕ → List ℕ
long n = to_le_bytes w64 n

-- in two's complement
unfoldable pub signed : ℤ → List ℕ
signed n = to_le_bytes w64 (cast_unsigned w64 n)

abbrev pub name : Name → List ℕ
name n = byte (length n) ++ n

abbrev pub names : List Name → List ℕ
names ns = number (length ns) ++ flat_map name ns

abbrev pub field_type : FieldType → List ℕ
field_type (Int lo hi) = byte (type_tag of.Int) ++ signed lo ++ signed hi
field_type Truth = byte (type_tag of.Bool)
field_type (Enum ns) = byte (type_tag of.Enum) ++ names ns

abbrev pub field : DeclaredField → List ℕ
field f = name f.name ++ field_type f.type

abbrev pub fields : List DeclaredField → List ℕ
fields fs = byte (length fs) ++ flat_map field fs

-- their number has one byte
abbrev pub sources : List Name → List ℕ
sources ns = byte (length ns) ++ flat_map name ns

abbrev pub times : Clock → List ℕ
times c = signed c.start ++ signed c.skew ++ signed c.lateness ++ signed c.records

abbrev pub measures : Shape → List ℕ
measures (Fixed size) = signed size
measures (Sliding size period) = signed size ++ signed period
measures (Session gap) = signed gap

abbrev pub mode : Mode → List ℕ
mode m = byte (mode_tag m)

abbrev pub kind : Kind → List ℕ
kind k = byte (kind_tag k)

abbrev pub kinds : List Kind → List ℕ
kinds ks = byte (length ks) ++ flat_map kind ks

abbrev pub column : CellType → List ℕ
column types.Int = byte (type_tag of.Int)
column types.Bool = byte (type_tag of.Bool)
column (types.Enum e) = byte (type_tag of.Enum) ++ byte e

abbrev pub columns : List CellType → List ℕ
columns ts = byte (length ts) ++ flat_map column ts

abbrev pub budget : Costs → List ℕ
budget b = long b.per_record ++ long b.per_pane ++ long b.held

abbrev pub magic : List ℕ
magic = codes "WSMP"

abbrev pub argument : Argument → List ℕ
argument arguments.Nothing = []
argument (arguments.Number n) = signed n
argument (arguments.Truth b) = byte (truth b)
argument (arguments.Name e i) = byte e ++ number i
argument (arguments.Field f) = byte f
argument (arguments.Accumulator a) = byte a
argument (arguments.Target t) = number t
argument (arguments.Test test t) = byte test.field ++ (byte (comparison_number test.comparison) ++ (signed test.number ++ number t))

-- its code, and what stands behind it
unfoldable pub instr : Instr → List ℕ
instr i = byte (table.code i) ++ argument (table.argument i)

unfoldable pub code : List Instr → List ℕ
code is = number (length is) ++ flat_map instr is

-- ---- the parts of a header that the versions spell each in its own way

pub record Settings : Type 0 where
  pub shape : Shape
  pub from_window : Bool  -- lateness counts from the ends of windows
  pub mode : Mode
  pub early : ℤ
  pub late : ℤ
  pub form : Form
  pub sources : List Name

abbrev pub settings_in : Header → Settings
settings_in h = record { shape = h.shape; from_window = h.clock.from_window; mode = h.mode; early = h.early; late = h.late; form = h.form; sources = h.schema.sources }
