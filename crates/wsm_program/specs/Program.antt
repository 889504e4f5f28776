-- Programs, without where they lie in memory, and what holds of each.
use Rattle.std.specs.Prelude.{ℕ, Bool, true, false, ◌&&◌, List, length, ℤ, nat_le, nat_lt, Option, Some, None, is_some, slice_get}
use Rattle.std.specs.List.{list_all}
use Rattle.wsm_record.specs.declared.Kind.{Kind}
use Rattle.wsm_record.specs.declared.Mode.{Mode}
use Rattle.wsm_record.specs.declared.Form.{Form}
use Rattle.wsm_record.specs.declared.limits.TheConstants.{MAX_ACCUMULATORS, MAX_COLUMNS, MAX_PANES, MAX_SECTION, MAX_STATED}
use Rattle.wsm_record.specs.Modes.{may_write}
use Rattle.wsm_record.specs.Name.{is_between}
use Rattle.wsm_record.specs.Schema.{FieldType, Int, Truth, Enum, DeclaredField, Declared, enum_names, is_i64, is_schema}
use Rattle.wsm_admission.specs.declared.clock.Clock.{Clock}
pub use Rattle.wsm_admission.specs.Clock.{is_limited, is_timely}
pub use Rattle.wsm_windows.specs.Limits.{is_shape, is_size, is_span, is_time}
use Rattle.wsm_windows.specs.declared.Shape.{Shape}
use Rattle.wsm_record.specs.declared.words.CellType.{CellType}
use Rattle.wsm_record.specs.declared.words.CellType.TheVariants as types
use Rattle.wsm_program.specs.declared.instr.Instr.{Instr}
use Rattle.wsm_program.specs.declared.instr.FieldTest.{FieldTest}
use Rattle.wsm_program.specs.declared.instr.Argument.{Argument}
use Rattle.wsm_program.specs.declared.instr.Argument.TheVariants as arguments
use Rattle.wsm_program.specs.Instructions.{argument}
use Rattle.wsm_program.specs.declared.instr.SectionId.{SectionId}
use Rattle.wsm_program.specs.declared.instr.SectionId.TheVariants.{Where, Update, Fire}
use Rattle.wsm_program.specs.declared.program.Costs.{Costs}

-- the bytes of a word
abbrev pub Name : Type 0
Name = List ℕ

pub record Header : Type 0 where
  pub schema : Declared
  pub clock : Clock
  pub shape : Shape
  pub mode : Mode
  pub early : ℤ  -- 0: none
  pub late : ℤ
  pub form : Form
  pub kinds : List Kind
  pub columns : List CellType
  pub budget : Costs

pub record Program : Type 0 where
  pub header : Header
  pub selection : List Instr  -- the section where
  pub update : List Instr
  pub fire : List Instr

abbrev pub section : Program → SectionId → List Instr
section p Where = p.selection
section p Update = p.update
section p Fire = p.fire

-- the same program, which states another budget
abbrev pub stating : Program → Costs → Program
stating p budget = record p { header = record p.header { budget = budget } }

-- ---- what holds of each program

abbrev pub is_column : Declared → CellType → Bool
is_column s types.Int = true
is_column s types.Bool = true
is_column s (types.Enum e) = is_some (enum_names s e)

abbrev pub is_stated : ℕ → Bool
is_stated n = is_between 1 MAX_STATED n

abbrev pub is_budget : Costs → Bool
is_budget b = is_stated b.per_record && (is_stated b.per_pane && is_between 1 MAX_PANES b.held)

-- its numbers, and what lateness is counted from
abbrev pub is_clock : Header → Bool
is_clock h = is_limited h.clock && is_timely h.clock.from_window h.shape

-- when panes fire, and what is written
abbrev pub is_firing : Header → Bool
is_firing h = is_shape h.shape && (is_span h.early && (is_span h.late && may_write h.mode h.form))

-- what a pane keeps, and what its row has
abbrev pub is_row : Header → Bool
is_row h = nat_le (length h.kinds) MAX_ACCUMULATORS && (is_between 1 MAX_COLUMNS (length h.columns) && list_all (is_column h.schema) h.columns)

unfoldable pub is_header : Header → Bool
is_header h = is_schema h.schema && (is_clock h && (is_firing h && (is_row h && is_budget h.budget)))

abbrev pub is_name_of : Option (List Name) → ℕ → Bool
is_name_of None i = false
is_name_of (Some names) i = nat_lt i (length names)

abbrev pub is_number_type : FieldType → Bool
is_number_type (Int lo hi) = true
is_number_type Truth = false
is_number_type (Enum names) = false

abbrev pub is_number_field : Option DeclaredField → Bool
is_number_field None = false
is_number_field (Some f) = is_number_type f.type

-- what is tested is a field of numbers
abbrev pub is_test : Header → FieldTest → Bool
is_test h t = is_number_field (slice_get h.schema.fields t.field) && is_i64 t.number

-- what an argument names is there; targets are free
abbrev pub is_argument : Header → Argument → Bool
is_argument h arguments.Nothing = true
is_argument h (arguments.Number n) = is_i64 n
is_argument h (arguments.Truth b) = true
is_argument h (arguments.Name e i) = is_name_of (enum_names h.schema e) i
is_argument h (arguments.Field f) = nat_lt f (length h.schema.fields)
is_argument h (arguments.Accumulator a) = nat_lt a (length h.kinds)
is_argument h (arguments.Target t) = nat_lt t 65536
is_argument h (arguments.Test test t) = is_test h test && nat_lt t 65536

abbrev pub is_instr : Header → Instr → Bool
is_instr h i = is_argument h (argument i)

unfoldable pub is_section : Header → List Instr → Bool
is_section h code = nat_le (length code) MAX_SECTION && list_all (is_instr h) code

-- what reading checks holds of each program
unfoldable pub is_program : Program → Bool
is_program p = is_header p.header && (is_section p.header p.selection && (is_section p.header p.update && is_section p.header p.fire))
