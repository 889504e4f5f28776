-- The types of expressions: an expression is walked from the left, its parts before itself, to its type or to the first fault.
use Rattle.std.specs.Prelude.{ℕ, suc, Bool, ◌&&◌, cond, List, Result, Ok, Err}
use Rattle.wsm_record.specs.declared.words.CellType.{CellType}
use Rattle.wsm_record.specs.declared.words.CellType.TheVariants as types
use Rattle.wsm_record.specs.Name.{is_among}
use Rattle.wsm_record.specs.Types.{is_type, kind_type}
use Rattle.wsm_query.specs.declared.expr.Op.{Op}
use Rattle.wsm_interval.specs.declared.Comparison.{Comparison}
use Rattle.wsm_interval.specs.declared.Comparison.TheVariants.{Eq, Ne}
use Rattle.wsm_query.specs.declared.expr.Op.TheVariants.{Compute, Compare}
use Rattle.wsm_record.specs.Schema.{FieldType, DeclaredField}
use Rattle.wsm_record.specs.Schema as field_types
use Rattle.wsm_query.specs.Tree.{Name, Query, Expr, Number, Truth, Field, EnumName, Key, KeyName, Count, Aggregate, If, Brackets, Minus, Not, Binary, And, Or}
use Rattle.wsm_check.specs.declared.refusal.CheckFault.{CheckFault}
use Rattle.wsm_check.specs.declared.refusal.CheckFault.TheVariants.{UnknownName, FieldOutsideAggregate, AggregateNested, AggregateInWhere}
use Rattle.wsm_check.specs.declared.refusal.CheckFault.TheVariants as fault
pub use Rattle.wsm_check.specs.declared.types.Around.{Around}
pub use Rattle.wsm_check.specs.declared.types.Around.TheVariants.{InWhere, InColumn, InAggregate}
use Rattle.wsm_check.specs.Names.{field_names, field_place, type_of, names_of}

-- a type, or the first fault
abbrev pub Typed : Type 0
Typed = Result CellType CheckFault

abbrev pub wanted : Bool → CellType → Typed
wanted b t = cond b (Ok t) (Err fault.Type)

abbrev pub if_typed : Typed → (CellType → Typed) → Typed
if_typed (Ok t) go = go t
if_typed (Err f) go = Err f

-- the types of two parts, from the left
abbrev pub if_both : Typed → Typed → (CellType → CellType → Typed) → Typed
if_both x y go = if_typed x (λ t. if_typed y (λ u. go t u))

abbrev pub declared_ty : ℕ → FieldType → CellType
declared_ty f (field_types.Int lo hi) = types.Int
declared_ty f field_types.Truth = types.Bool
declared_ty f (field_types.Enum names) = types.Enum (suc f)

-- a field is read in WHERE and in an aggregate alone
abbrev pub read_at : Around → CellType → Typed
read_at InWhere t = Ok t
read_at InColumn t = Err FieldOutsideAggregate
read_at InAggregate t = Ok t

-- of fields, by their names
abbrev pub read_ty : List DeclaredField → Around → Name → Typed
read_ty ds around x = cond (is_among x (field_names ds)) (read_at around (declared_ty (field_place ds x) (type_of x ds))) (Err UnknownName)

abbrev pub field_ty : Query → Around → Name → Typed
field_ty q around x = read_ty q.fields around x

-- the field must be there, an ENUM, and have the name
abbrev pub name_ty : List DeclaredField → Name → Name → Typed
name_ty ds x y = cond (is_among x (field_names ds) && is_among y (names_of (type_of x ds))) (Ok (types.Enum (suc (field_place ds x)))) (Err UnknownName)

abbrev pub key_ty : List Name → Name → Typed
key_ty keys x = cond (is_among x keys) (Ok (types.Enum 0)) (Err UnknownName)

abbrev pub two_ints : CellType → CellType → Bool
two_ints t u = is_type t types.Int && is_type u types.Int

-- equality takes two values of one type, and order two numbers
abbrev pub are_comparable : Comparison → CellType → CellType → Bool
are_comparable Eq t u = is_type t u
are_comparable Ne t u = is_type t u
are_comparable _ t u = two_ints t u

abbrev pub op_ty : Op → CellType → CellType → Typed
op_ty (Compute a) t u = wanted (two_ints t u) types.Int
op_ty (Compare c) t u = wanted (are_comparable c t u) types.Bool

abbrev pub logic_ty : CellType → CellType → Typed
logic_ty t u = wanted (is_type t types.Bool && is_type u types.Bool) types.Bool

-- a test must be BOOL, and what it chooses from of one type
abbrev pub choice_ty : CellType → CellType → CellType → Typed
choice_ty b t u = wanted (is_type b types.Bool && is_type t u) t

-- a part that is to have a type
abbrev pub typed_as : CellType → Typed → Typed
typed_as want x = if_typed x (λ t. wanted (is_type t want) want)

-- on the way down into an aggregate
abbrev pub entered : Around → Typed → Typed
entered InWhere t = Err AggregateInWhere
entered InAggregate t = Err AggregateNested
entered InColumn t = t

abbrev pub typed : Query → Around → Expr → Typed
typed q around (Number n) = Ok types.Int
typed q around (Truth b) = Ok types.Bool
typed q around (Field x) = field_ty q around x
typed q around (EnumName x y) = name_ty q.fields x y
typed q around Key = Ok (types.Enum 0)
typed q around (KeyName x) = key_ty q.keys x
typed q around Count = entered around (Ok types.Int)
typed q around (Aggregate kind e) =
    entered around (typed_as (kind_type kind) (typed q InAggregate e))
typed q around (If c x y) =
    if_typed (typed q around c) (λ b. if_both (typed q around x) (typed q around y) (choice_ty b))
typed q around (Brackets e) = typed q around e
typed q around (Minus e) = typed_as types.Int (typed q around e)
typed q around (Not e) = typed_as types.Bool (typed q around e)
typed q around (Binary op x y) = if_both (typed q around x) (typed q around y) (op_ty op)
typed q around (And x y) = if_both (typed q around x) (typed q around y) logic_ty
typed q around (Or x y) = if_both (typed q around x) (typed q around y) logic_ty

-- a condition is BOOL
abbrev pub typed_condition : Query → Around → Expr → Typed
typed_condition q around e = typed_as types.Bool (typed q around e)
