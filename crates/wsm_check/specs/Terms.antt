-- Expressions of a checked query: names are numbers, and brackets are gone.
use Rattle.std.specs.Prelude.{ℕ, suc, ◌+◌, Bool, ℤ}
use Rattle.wsm_query.specs.declared.expr.Op.{Op}
use Rattle.wsm_query.specs.Tree as tree
use Rattle.wsm_query.specs.Tree.{Query, Expr, EnumName, KeyName, Aggregate, Brackets}
use Rattle.wsm_check.specs.Names.{place_of, field_place, name_place}
use Rattle.wsm_check.specs.Aggregates.{aggregates}

-- ENUM 0 is the keys, and f + 1 the names of field f
pub data Term : Type 0 where
  Number : (value : ℤ) → Term
  Truth : (value : Bool) → Term
  Field : (field : ℕ) → Term
  Name : (enum : ℕ) → (name : ℕ) → Term
  Key : Term
  Count : Term
  Accumulator : (number : ℕ) → Term
  If : (test : Term) → (first : Term) → (second : Term) → Term
  Minus : (operand : Term) → Term
  Not : (operand : Term) → Term
  Binary : (op : Op) → (left : Term) → (right : Term) → Term
  And : (left : Term) → (right : Term) → Term
  Or : (left : Term) → (right : Term) → Term

-- the term of an expression whose first aggregate is the a-th of the query
abbrev pub resolved : Query → ℕ → Expr → Term
resolved q a (tree.Number n) = Number n
resolved q a (tree.Truth b) = Truth b
resolved q a (tree.Field x) = Field (field_place q.fields x)
resolved q a (EnumName x y) = Name (suc (field_place q.fields x)) (name_place q.fields x y)
resolved q a tree.Key = Key
resolved q a (KeyName x) = Name 0 (place_of x q.keys)
resolved q a tree.Count = Count
resolved q a (Aggregate kind e) = Accumulator a
resolved q a (tree.If c x y) = If (resolved q a c) (resolved q (a + aggregates c) x) (resolved q (a + (aggregates c + aggregates x)) y)
resolved q a (Brackets e) = resolved q a e
resolved q a (tree.Minus e) = Minus (resolved q a e)
resolved q a (tree.Not e) = Not (resolved q a e)
resolved q a (tree.Binary op x y) = Binary op (resolved q a x) (resolved q (a + aggregates x) y)
resolved q a (tree.And x y) = And (resolved q a x) (resolved q (a + aggregates x) y)
resolved q a (tree.Or x y) = Or (resolved q a x) (resolved q (a + aggregates x) y)
