-- The aggregates of a query in their order.
use Rattle.std.specs.Prelude.{ℕ, ◌+◌, List, [], ◌∷◌, ◌++◌, Option, Some, None}
use Rattle.std.specs.List.{flat_map}
use Rattle.wsm_record.specs.declared.words.Kind.{Kind}
use Rattle.wsm_query.specs.Tree.{Query, Expr, Aggregate, If, Brackets, Minus, Not, Binary, And, Or}

-- the aggregates in an expression, COUNT(*) aside
abbrev pub aggregates : Expr → ℕ
aggregates (Aggregate kind e) = 1
aggregates (If c x y) = aggregates c + (aggregates x + aggregates y)
aggregates (Brackets e) = aggregates e
aggregates (Minus e) = aggregates e
aggregates (Not e) = aggregates e
aggregates (Binary op x y) = aggregates x + aggregates y
aggregates (And x y) = aggregates x + aggregates y
aggregates (Or x y) = aggregates x + aggregates y
aggregates _ = 0

-- an aggregate, which has an accumulator of its own: its kind and its operand
pub record Acc : Type 0 where
  pub kind : Kind
  pub operand : Expr

-- the aggregates of an expression, from the left
abbrev pub accumulators_of : Expr → List Acc
accumulators_of (Aggregate kind e) = record { kind = kind; operand = e } ∷ []
accumulators_of (If c x y) = accumulators_of c ++ (accumulators_of x ++ accumulators_of y)
accumulators_of (Brackets e) = accumulators_of e
accumulators_of (Minus e) = accumulators_of e
accumulators_of (Not e) = accumulators_of e
accumulators_of (Binary op x y) = accumulators_of x ++ accumulators_of y
accumulators_of (And x y) = accumulators_of x ++ accumulators_of y
accumulators_of (Or x y) = accumulators_of x ++ accumulators_of y
accumulators_of _ = []

abbrev pub in_option : Option Expr → List Expr
in_option None = []
in_option (Some e) = e ∷ []

-- what a firing computes: the columns, then HAVING
abbrev pub fired : Query → List Expr
fired q = q.columns ++ in_option q.having

-- the accumulators of a query; equal aggregates aren't shared
abbrev pub accumulators : Query → List Acc
accumulators q = flat_map accumulators_of (fired q)
