-- Values that are computed, with their types.
use Rattle.std.specs.Prelude.{ℕ, Bool, true, false, nat_eq}
use Rattle.wsm_record.specs.declared.cell.Cell.{Cell}
use Rattle.wsm_record.specs.declared.cell.Cell.TheVariants as cells
use Rattle.wsm_record.specs.declared.event.Value.{Value}
use Rattle.wsm_record.specs.declared.event.Value.TheVariants as values
use Rattle.wsm_record.specs.declared.words.CellType.{CellType}
use Rattle.wsm_record.specs.declared.words.CellType.TheVariants as types
use Rattle.wsm_record.specs.declared.words.Kind.{Kind}
use Rattle.wsm_record.specs.declared.words.Kind.TheVariants.{Sum, Min, Max, Any, All}

-- the same type
abbrev pub is_type : CellType → CellType → Bool
is_type types.Int types.Int = true
is_type types.Bool types.Bool = true
is_type (types.Enum d) (types.Enum e) = nat_eq d e
is_type _ _ = false

-- what an aggregate folds, and gives: numbers (SUM, MIN, MAX) or truths (ANY, ALL)
abbrev pub kind_type : Kind → CellType
kind_type Sum = types.Int
kind_type Min = types.Int
kind_type Max = types.Int
kind_type Any = types.Bool
kind_type All = types.Bool

abbrev pub type_of : Cell → CellType
type_of (cells.Int n) = types.Int
type_of (cells.Bool b) = types.Bool
type_of (cells.Enum e i) = types.Enum e

-- the value without its ENUM
abbrev pub value_of : Cell → Value
value_of (cells.Int n) = values.Int n
value_of (cells.Bool b) = values.Bool b
value_of (cells.Enum e i) = values.Enum i

-- the value as one of ENUM e, where it is a name
abbrev pub cell_of : ℕ → Value → Cell
cell_of e (values.Int n) = cells.Int n
cell_of e (values.Bool b) = cells.Bool b
cell_of e (values.Enum i) = cells.Enum e i

abbrev pub enum_of : CellType → ℕ
enum_of types.Int = 0
enum_of types.Bool = 0
enum_of (types.Enum e) = e

-- the value as one of a type
abbrev pub cell : CellType → Value → Cell
cell t v = cell_of (enum_of t) v
