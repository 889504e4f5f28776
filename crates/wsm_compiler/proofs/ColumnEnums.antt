-- The ENUM that a column's values are of is that of its type.
use Rattle.std.proofs.Common.{◌≡◌, ℕ, suc, Bool, true, false, List, [], ◌∷◌, map, cond, Ok, Err, refl, subst}
use Rattle.std.specs.Prelude.{Option, option_map, ◌&&◌}
use Rattle.wsm_record.specs.declared.cell.Cell.{Cell}
use Rattle.wsm_record.specs.declared.words.CellType.{CellType}
use Rattle.wsm_record.specs.declared.words.CellType.TheVariants as types
use Rattle.wsm_record.specs.declared.words.Kind.{Kind}
use Rattle.wsm_record.specs.declared.words.Kind.TheVariants.{Sum, Min, Max, Any, All}
use Rattle.wsm_record.specs.Name.{is_among}
use Rattle.wsm_record.specs.Types.{cell, cell_of, enum_of, is_type, kind_type}
use Rattle.wsm_query.specs.declared.expr.Op.{Op}
use Rattle.wsm_query.specs.declared.expr.Op.TheVariants.{Compute, Compare}
use Rattle.wsm_query.specs.Tree.{Query, Expr, Number, Truth, Field, EnumName, Key, KeyName, Count, Aggregate, If, Brackets, Minus, Not, Binary, And, Or}
use Rattle.wsm_check.specs.declared.refusal.CheckFault.{CheckFault}
use Rattle.wsm_check.specs.Names.{field_names, field_place, names_of, type_of}
use Rattle.wsm_check.specs.Parts.{column_type, type_or_int}
use Rattle.wsm_check.specs.declared.types.Around.TheVariants.{InColumn, InAggregate}
use Rattle.wsm_check.specs.Types.{Typed, are_comparable, choice_ty, if_both, if_typed, logic_ty, op_ty, two_ints, typed, typed_as, wanted}
use Rattle.wsm_compiler.specs.Meaning.{Scene, column, column_enum, meaning}
use Rattle.wsm_compiler.proofs.Conditions.{ColumnsTyped}

-- a type of which ENUM this is the number
abbrev IsOf : ℕ → Typed → Type 0
IsOf n (Ok t) = enum_of t ≡ n
IsOf n (Err f) = Unit {0}

wanted_is : (b : Bool) (t : CellType) (n : ℕ) → enum_of t ≡ n → IsOf n (wanted b t)
wanted_is true t n h = h
wanted_is false t n h = tt

never_is : (n : ℕ) (b : Bool) (f g : CheckFault) → IsOf n (cond b (Err f) (Err g))
never_is n true f g = tt
never_is n false f g = tt

where_there : (n : ℕ) (b : Bool) (f : CheckFault) → IsOf n (cond b (Ok (types.Enum n)) (Err f))
where_there n true f = refl
where_there n false f = tt

as_is : (want : CellType) (x : Typed) → IsOf (enum_of want) (typed_as want x)
as_is want (Ok t) = wanted_is (is_type t want) want (enum_of want) refl
as_is want (Err f) = tt

kind_is : (kind : Kind) → enum_of (kind_type kind) ≡ 0
kind_is Sum = refl
kind_is Min = refl
kind_is Max = refl
kind_is Any = refl
kind_is All = refl

op_is : (op : Op) (x y : Typed) → IsOf 0 (if_both x y (op_ty op))
op_is (Compute a) (Ok t) (Ok u) = wanted_is (two_ints t u) types.Int 0 refl
op_is (Compute a) (Ok t) (Err f) = tt
op_is (Compute a) (Err f) y = tt
op_is (Compare c) (Ok t) (Ok u) = wanted_is (are_comparable c t u) types.Bool 0 refl
op_is (Compare c) (Ok t) (Err f) = tt
op_is (Compare c) (Err f) y = tt

logic_is : (x y : Typed) → IsOf 0 (if_both x y logic_ty)
logic_is (Ok t) (Ok u) = wanted_is (is_type t types.Bool && is_type u types.Bool) types.Bool 0 refl
logic_is (Ok t) (Err f) = tt
logic_is (Err f) y = tt

choice_is : (n : ℕ) (c x y : Typed) → IsOf n x → IsOf n (if_typed c (λ b. if_both x y (choice_ty b)))
choice_is n (Ok b) (Ok t) (Ok u) h = wanted_is (is_type b types.Bool && is_type t u) t n h
choice_is n (Ok b) (Ok t) (Err f) h = tt
choice_is n (Ok b) (Err f) y h = tt
choice_is n (Err f) x y h = tt

expr_is : (q : Query) (e : Expr) → IsOf (column_enum q e) (typed q InColumn e)
expr_is q (Number n) = refl
expr_is q (Truth b) = refl
expr_is q (Field x) = never_is 0 (is_among x (field_names q.fields)) _ _
expr_is q (EnumName x y) = where_there (suc (field_place q.fields x)) (is_among x (field_names q.fields) && is_among y (names_of (type_of x q.fields))) _
expr_is q Key = refl
expr_is q (KeyName x) = where_there 0 (is_among x q.keys) _
expr_is q Count = refl
expr_is q (Aggregate kind e) = subst (λ n. IsOf n (typed_as (kind_type kind) (typed q InAggregate e))) (kind_is kind) (as_is (kind_type kind) (typed q InAggregate e))
expr_is q (If c x y) = choice_is (column_enum q x) (typed q InColumn c) (typed q InColumn x) (typed q InColumn y) (expr_is q x)
expr_is q (Brackets e) = expr_is q e
expr_is q (Minus e) = as_is types.Int (typed q InColumn e)
expr_is q (Not e) = as_is types.Bool (typed q InColumn e)
expr_is q (Binary op x y) = op_is op (typed q InColumn x) (typed q InColumn y)
expr_is q (And x y) = logic_is (typed q InColumn x) (typed q InColumn y)
expr_is q (Or x y) = logic_is (typed q InColumn x) (typed q InColumn y)

of_type : (n : ℕ) (r : Typed) (t : CellType) → r ≡ Ok t → IsOf n r → enum_of (type_or_int r) ≡ n
of_type n (Ok u) t e h = h
of_type n (Err f) t e h = cc

-- a column, with its type
abbrev pub typed_column : Query → Scene → Expr → Option Cell
typed_column q s e = option_map (cell (column_type q e)) (meaning q s e)

pub typed_columns : (q : Query) (s : Scene) (es : List Expr) → ColumnsTyped q es → map (typed_column q s) es ≡ map (column q s) es
typed_columns q s [] h = refl
typed_columns q s (e ∷ es) h =
    let same : enum_of (column_type q e) ≡ column_enum q e = of_type (column_enum q e) (typed q InColumn e) h.0.0 h.0.1 (expr_is q e) in
    λ i. option_map (cell_of (same i)) (meaning q s e) ∷ typed_columns q s es h.1 i
