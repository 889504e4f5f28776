-- What an expression means, in whole numbers without bound: no stack, no jumps, no width. It is partial, and AND, OR and IF
-- evaluate only what they need.
use Rattle.std.specs.Prelude.{ℕ, suc, ◌+◌, Bool, true, false, not, cond, List, [], ◌∷◌, ◌++◌, length, map, ℤ, pos, neg_ℤ, int_div, int_rem, nat_eq, Option, Some, None, option_map, slice_get}
use Rattle.std.specs.List.{list_all}
use Rattle.std.specs.Ordering.{int_eq}
use Rattle.wsm_record.specs.declared.event.Value.{Value}
use Rattle.wsm_record.specs.declared.cell.Cell.{Cell}
use Rattle.wsm_record.specs.Types.{cell_of}
use Rattle.wsm_record.specs.declared.event.Value.TheVariants.{Int, Bool as Truth', Enum}
use Rattle.wsm_record.specs.declared.words.Kind.{Kind}
use Rattle.wsm_record.specs.Schema.{is_i64}
use Rattle.wsm_fold.specs.Fold.{fold_of}
use Rattle.wsm_query.specs.declared.expr.Op.{Op}
use Rattle.wsm_interval.specs.Arithmetic.{result_of}
use Rattle.wsm_interval.specs.Comparison as comparison
use Rattle.wsm_interval.specs.declared.Arithmetic.TheVariants.{Div, Rem}
use Rattle.wsm_interval.specs.declared.Comparison.TheVariants.{Eq, Ne}
use Rattle.wsm_query.specs.declared.expr.Op.TheVariants.{Compute, Compare}
use Rattle.wsm_query.specs.Tree.{Query, Expr, Number, Truth, Field, EnumName, Key, KeyName, Count, Aggregate, If, Brackets, Minus, Not, Binary, And, Or}
use Rattle.wsm_check.specs.Names.{place_of, field_place, name_place}
use Rattle.wsm_check.specs.Aggregates.{aggregates}

-- an operator on two numbers, with no value at a zero divisor
abbrev pub on_numbers : Op → ℤ → ℤ → Option Value
on_numbers (Compute Div) x y = cond (int_eq y (pos 0)) None (Some (Int (int_div x y)))
on_numbers (Compute Rem) x y = cond (int_eq y (pos 0)) None (Some (Int (int_rem x y)))
on_numbers (Compute a) x y = Some (Int (result_of a x y))
on_numbers (Compare c) x y = Some (Truth' (comparison.is_true c x y))

-- of two values that are no numbers: whether they are the same, or not
abbrev pub on_same : Op → Bool → Option Value
on_same (Compare Eq) b = Some (Truth' b)
on_same (Compare Ne) b = Some (Truth' (not b))
on_same _ b = None

abbrev pub same_truth : Bool → Bool → Bool
same_truth true b = b
same_truth false b = not b

abbrev pub on_two : Op → Value → Value → Option Value
on_two op (Int x) (Int y) = on_numbers op x y
on_two op (Truth' a) (Truth' b) = on_same op (same_truth a b)
on_two op (Enum i) (Enum j) = on_same op (nat_eq i j)
on_two op _ _ = None

abbrev pub both : (Value → Value → Option Value) → Option Value → Option Value → Option Value
both f (Some x) (Some y) = f x y
both f _ _ = None

abbrev pub minus : Option Value → Option Value
minus (Some (Int x)) = Some (Int (neg_ℤ x))
minus _ = None

abbrev pub negated : Option Value → Option Value
negated (Some (Truth' b)) = Some (Truth' (not b))
negated _ = None

-- the first or the second where a test is true or false
abbrev pub chosen : Option Value → Option Value → Option Value → Option Value
chosen (Some (Truth' true)) x y = x
chosen (Some (Truth' false)) x y = y
chosen _ x y = None

-- what an expression is a meaning on: the values of fields, the key, how many records there are, and the value of an aggregate
-- of a number
pub record Scene : Type 0 where
  pub field : ℕ → Option Value
  pub key : ℕ
  pub count : Option Value
  pub aggregate : ℕ → Kind → Expr → Option Value

-- the meaning of an expression whose first aggregate is the a-th of the query
abbrev pub meaning_from : Query → Scene → ℕ → Expr → Option Value
meaning_from q s a (Number n) = Some (Int n)
meaning_from q s a (Truth b) = Some (Truth' b)
meaning_from q s a (Field x) = s.field (field_place q.fields x)
meaning_from q s a (EnumName x y) = Some (Enum (name_place q.fields x y))
meaning_from q s a Key = Some (Enum s.key)
meaning_from q s a (KeyName x) = Some (Enum (place_of x q.keys))
meaning_from q s a Count = s.count
meaning_from q s a (Aggregate kind e) = s.aggregate a kind e
meaning_from q s a (If c x y) =
    chosen (meaning_from q s a c) (meaning_from q s (a + aggregates c) x) (meaning_from q s (a + (aggregates c + aggregates x)) y)
meaning_from q s a (Brackets e) = meaning_from q s a e
meaning_from q s a (Minus e) = minus (meaning_from q s a e)
meaning_from q s a (Not e) = negated (meaning_from q s a e)
meaning_from q s a (Binary op x y) = both (on_two op) (meaning_from q s a x) (meaning_from q s (a + aggregates x) y)
meaning_from q s a (And x y) = chosen (meaning_from q s a x) (meaning_from q s (a + aggregates x) y) (Some (Truth' false))
meaning_from q s a (Or x y) = chosen (meaning_from q s a x) (Some (Truth' true)) (meaning_from q s (a + aggregates x) y)

abbrev pub meaning : Query → Scene → Expr → Option Value
meaning q s e = meaning_from q s 0 e

-- on a record
abbrev pub on_record : ℕ → List Value → Scene
on_record key values = record { field = λ f. slice_get values f; key = key; count = None; aggregate = λ a kind e. None }

-- all values, where there are all
abbrev pub all_of : {A : Type 0} → List (Option A) → Option (List A)
all_of [] = Some []
all_of (v ∷ vs) = elim v [ None ↦ None | Some x ↦ elim (all_of vs) [ None ↦ None | Some xs ↦ Some (x ∷ xs) ] ]

abbrev pub fold_where_all : Kind → Option (List Value) → Option Value
fold_where_all kind None = None
fold_where_all kind (Some vs) = fold_of kind vs

-- on a key and its records: an aggregate is the fold of its operand's meanings on them
abbrev pub on_records : Query → ℕ → List (List Value) → Scene
on_records q key records = record {
  field = λ f. None;
  key = key;
  count = Some (Int (pos (length records)));
  aggregate = λ a kind e. fold_where_all kind (all_of (map (λ vs. meaning q (on_record key vs) e) records));
}

-- on a key, a count and the values of the accumulators: the a-th aggregate is the a-th of these
abbrev pub on_accumulators : ℕ → ℤ → List Value → Scene
on_accumulators key count accs = record { field = λ f. None; key = key; count = Some (Int count); aggregate = λ a kind e. slice_get accs a }

abbrev pub is_true : Option Value → Bool
is_true (Some (Truth' b)) = b
is_true _ = false

-- a condition that isn't there is true
abbrev pub condition_holds : Query → Scene → Option Expr → Bool
condition_holds q s None = true
condition_holds q s (Some e) = is_true (meaning q s e)

-- whether the query selects a record of a key and values
abbrev pub selects : Query → ℕ → List Value → Bool
selects q key values = condition_holds q (on_record key values) q.condition

-- the ENUM that a column's values are of, if they are of one: the key's is 0, and a field's the place behind the field's
abbrev pub column_enum : Query → Expr → ℕ
column_enum q (EnumName x y) = suc (field_place q.fields x)
column_enum q (If c x y) = column_enum q x
column_enum q (Brackets e) = column_enum q e
column_enum q e = 0

-- a column, with the ENUM of its values
abbrev pub column : Query → Scene → Expr → Option Cell
column q s e = option_map (cell_of (column_enum q e)) (meaning q s e)

-- the columns over a key and its records, where HAVING is true
abbrev pub row : Query → ℕ → List (List Value) → Option (List Cell)
row q key records = let s = on_records q key records in cond (condition_holds q s q.having) (all_of (map (column q s) q.columns)) None

-- ---- the numbers that an expression meets

-- a value's number, if it is one
abbrev pub number_of : Option Value → List ℤ
number_of (Some (Int n)) = n ∷ []
number_of _ = []

abbrev pub chosen_numbers : Option Value → List ℤ → List ℤ → List ℤ
chosen_numbers (Some (Truth' true)) x y = x
chosen_numbers (Some (Truth' false)) x y = y
chosen_numbers _ x y = []

-- the values of the sub-expressions that it evaluates, each once
abbrev pub met_from : Query → Scene → ℕ → Expr → List ℤ
met_from q s a (If c x y) =
    met_from q s a c ++ chosen_numbers (meaning_from q s a c) (met_from q s (a + aggregates c) x) (met_from q s (a + (aggregates c + aggregates x)) y)
met_from q s a (Brackets e) = met_from q s a e
met_from q s a (Minus e) = met_from q s a e ++ number_of (meaning_from q s a (Minus e))
met_from q s a (Not e) = met_from q s a e
met_from q s a (Binary op x y) = met_from q s a x ++ (met_from q s (a + aggregates x) y ++ number_of (meaning_from q s a (Binary op x y)))
met_from q s a (And x y) = met_from q s a x ++ chosen_numbers (meaning_from q s a x) (met_from q s (a + aggregates x) y) []
met_from q s a (Or x y) = met_from q s a x ++ chosen_numbers (meaning_from q s a x) [] (met_from q s (a + aggregates x) y)
met_from q s a e = number_of (meaning_from q s a e)

-- every number that the expression meets has 64 bits
abbrev pub meets_i64 : Query → Scene → ℕ → Expr → Bool
meets_i64 q s a e = list_all is_i64 (met_from q s a e)
