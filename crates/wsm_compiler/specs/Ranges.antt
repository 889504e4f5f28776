-- The ranges of a query's expressions, by their structure.
use Rattle.std.specs.Prelude.{ℕ, zero, suc, Bool, true, false, ◌&&◌, cond, List, [], ◌∷◌, ◌++◌, ℤ, pos, ◌*ℤ◌, Option, Some, None}
use Rattle.std.specs.List.{list_all}
use Rattle.std.specs.Int.{int_min, int_max}
use Rattle.wsm_record.specs.declared.words.Kind.{Kind}
use Rattle.wsm_record.specs.declared.words.Kind.TheVariants.{Sum, Min, Max}
use Rattle.wsm_interval.specs.declared.interval.Interval.{Interval}
use Rattle.wsm_interval.specs.declared.Comparison.{Comparison}
use Rattle.wsm_interval.specs.Comparison.{opposite}
use Rattle.wsm_interval.specs.Interval.{interval, computed, neg, hull}
use Rattle.wsm_interval.specs.Narrowing.{narrow}
use Rattle.wsm_query.specs.declared.expr.Op.{Op}
use Rattle.wsm_query.specs.declared.expr.Op.TheVariants.{Compute, Compare}
use Rattle.wsm_record.specs.Schema.{FieldType, DeclaredField, is_i64}
use Rattle.wsm_record.specs.Schema as field_types
use Rattle.wsm_program.specs.declared.instr.FieldTest.{FieldTest}
use Rattle.wsm_query.specs.Tree.{Query, Expr, Number, Field, Count, Aggregate, If, Brackets, Minus, Not, Binary, And, Or}
use Rattle.wsm_check.specs.Names.{type_of}
use Rattle.wsm_compiler.specs.Code.{test_of}
use Rattle.wsm_check.specs.Aggregates.{in_option, fired}

-- an expression's range: none for it or for a part of it, no number, or an interval
pub data Range : Type 0 where
  Unfit : Range
  NoNumber : Range
  Within : (interval : Interval) → Range

abbrev pub within : Option Interval → Range
within None = Unfit
within (Some i) = Within i

-- both parts fit, and give a value that is no number
abbrev pub no_number : Range → Range → Range
no_number Unfit _ = Unfit
no_number _ Unfit = Unfit
no_number _ _ = NoNumber

abbrev pub on_intervals : (Interval → Interval → Option Interval) → Range → Range → Range
on_intervals f (Within x) (Within y) = within (f x y)
on_intervals f x y = no_number x y

abbrev pub of_op : Op → Range → Range → Range
of_op (Compute a) x y = on_intervals (computed a) x y
of_op (Compare c) x y = no_number x y

abbrev pub of_minus : Range → Range
of_minus (Within x) = within (neg x)
of_minus x = x

abbrev pub of_branches : Range → Range → Range
of_branches (Within x) (Within y) = Within (hull x y)
of_branches x y = no_number x y

abbrev pub if_fits : Range → Range → Range
if_fits Unfit r = Unfit
if_fits _ r = r

-- the sum of at least one and at most n numbers of the interval, where n of them always stay in 64 bits
abbrev pub of_sum : ℤ → Interval → Range
of_sum n x =
    cond (is_i64 (n *ℤ x.lo) && is_i64 (n *ℤ x.hi)) (Within (interval (int_min x.lo (n *ℤ x.lo)) (int_max x.hi (n *ℤ x.hi)))) Unfit

abbrev pub of_aggregate : ℤ → Kind → Range → Range
of_aggregate n Sum (Within x) = of_sum n x
of_aggregate n Min x = x
of_aggregate n Max x = x
of_aggregate n _ x = no_number x x

abbrev pub of_type : FieldType → Range
of_type (field_types.Int lo hi) = Within (interval lo hi)
of_type field_types.Truth = NoNumber
of_type (field_types.Enum names) = NoNumber

abbrev of_interval : Interval → FieldType
of_interval i = field_types.Int i.lo i.hi

abbrev pub narrowed_type : Comparison → ℤ → FieldType → FieldType
narrowed_type o n (field_types.Int lo hi) = of_interval (narrow o n (interval lo hi))
narrowed_type o n t = t

-- the field of a number, narrowed to where it compares so with a number
abbrev pub narrowed_fields : ℕ → Comparison → ℤ → List DeclaredField → List DeclaredField
narrowed_fields f o n [] = []
narrowed_fields zero o n (d ∷ ds) = record d { type = narrowed_type o n d.type } ∷ ds
narrowed_fields (suc f) o n (d ∷ ds) = d ∷ narrowed_fields f o n ds

-- the fields where a test is true, and where it is false; one that is no comparison of a field with a number narrows none
abbrev pub where_true : Option FieldTest → List DeclaredField → List DeclaredField
where_true None fs = fs
where_true (Some t) fs = narrowed_fields t.field t.comparison t.number fs

abbrev pub where_false : Option FieldTest → List DeclaredField → List DeclaredField
where_false None fs = fs
where_false (Some t) fs = narrowed_fields t.field (opposite t.comparison) t.number fs

-- the range of an expression, where the fields are as they are given
abbrev pub range_on : Query → List DeclaredField → Expr → Range
range_on q fs (Number n) = Within (interval n n)
range_on q fs (Field x) = of_type (type_of x fs)
range_on q fs Count = Within (interval (pos 1) q.clock.records)
range_on q fs (Aggregate kind e) = of_aggregate q.clock.records kind (range_on q q.fields e)
range_on q fs (If c x y) = if_fits (range_on q fs c) (of_branches (range_on q (where_true (test_of q 0 c) fs) x) (range_on q (where_false (test_of q 0 c) fs) y))
range_on q fs (Brackets e) = range_on q fs e
range_on q fs (Minus e) = of_minus (range_on q fs e)
range_on q fs (Not e) = range_on q fs e
range_on q fs (Binary op x y) = of_op op (range_on q fs x) (range_on q fs y)
range_on q fs (And x y) = no_number (range_on q fs x) (range_on q (where_true (test_of q 0 x) fs) y)
range_on q fs (Or x y) = no_number (range_on q fs x) (range_on q (where_false (test_of q 0 x) fs) y)
range_on q fs _ = NoNumber

-- where they are as they are declared
abbrev pub range : Query → Expr → Range
range q e = range_on q q.fields e

abbrev pub fits : Range → Bool
fits Unfit = false
fits NoNumber = true
fits (Within i) = true

-- each number of the query, evaluated or not, has a range in 64 bits
abbrev pub ranges_fit : Query → Bool
ranges_fit q = list_all (λ e. fits (range q e)) (in_option q.condition ++ fired q)
