-- Which query a text says, by its tokens alone: those that the query is printed as, where brackets stand wherever its trees
-- need them, and names are no reserved words. This project's own rule.
use Rattle.std.specs.Prelude.{◌≡◌, ℕ, zero, Bool, true, false, ◌&&◌, List, nat_le, nat_lt, ℤ, pos, negsuc, Option, Some, None, bytes_eq, codes}
use Rattle.std.specs.List.{list_all}
use Rattle.wsm_record.specs.Name.{is_name}
use Rattle.wsm_tokens.specs.declared.token.Sign.TheVariants as signs
use Rattle.wsm_tokens.specs.Tokens.{Token, Word, Mark, Number as Figure, Tokens, Then, End, Bad, tokens}
use Rattle.wsm_tokens.specs.Written.{put}
use Rattle.wsm_interval.specs.declared.Arithmetic.TheVariants.{Add, Sub}
use Rattle.wsm_query.specs.declared.expr.Op.{Op}
use Rattle.wsm_query.specs.declared.expr.Op.TheVariants.{Compute, Compare}
use Rattle.wsm_query.specs.Tree.{Query, Expr, Number, Field, EnumName, KeyName, Aggregate, If, Brackets, Minus, Not, Binary, And, Or}
use Rattle.wsm_query.specs.Print.{query_tokens}

-- ---- the tokens of a text

abbrev pub is_minus : Token → Bool
is_minus (Mark signs.Minus) = true
is_minus t = false

abbrev pub is_zero : Token → Bool
is_zero (Figure (pos zero)) = true
is_zero t = false

abbrev pub zero_next : Tokens → Bool
zero_next (Then t at rest) = is_zero t
zero_next ts = false

-- behind it stands a bound of an interval
abbrev pub begins_bound : Token → Bool
begins_bound (Word w) = bytes_eq w (codes "INT")
begins_bound (Mark signs.DotDot) = true
begins_bound t = false

-- the tokens without their places; of a bound `-0` only the 0
unfoldable pub plain : (at_bound : Bool) → Tokens → Tokens
plain at_bound (Then t at rest) = elim (at_bound && (is_minus t && zero_next rest)) [ true ↦ plain false rest | false ↦ Then t 0 (plain (begins_bound t) rest) ]
plain at_bound (End at) = End 0
plain at_bound (Bad fault at) = Bad fault 0

-- ---- trees that their tokens tell

-- how tightly an operator binds
abbrev pub op_bond : Op → ℕ
op_bond (Compare c) = 3
op_bond (Compute Add) = 4
op_bond (Compute Sub) = 4
op_bond (Compute a) = 5

-- how tightly an expression is bound by its outermost operator; most where it has none, or a minus sign
abbrev pub bond : Expr → ℕ
bond (Or x y) = 0
bond (And x y) = 1
bond (Not e) = 2
bond (Binary op x y) = op_bond op
bond e = 6

-- operands of an operator that binds so: a chain of such operators leans to the left
abbrev pub leans : ℕ → Expr → Expr → Bool
leans n x y = nat_le n (bond x) && nat_lt n (bond y)

-- comparisons make no chains
abbrev pub op_leans : Op → Expr → Expr → Bool
op_leans (Compare c) x y = nat_lt 3 (bond x) && nat_lt 3 (bond y)
op_leans (Compute a) x y = leans (op_bond (Compute a)) x y

abbrev pub is_natural : ℤ → Bool
is_natural (pos n) = true
is_natural (negsuc n) = false

-- no other tree has its tokens: brackets stand wherever it needs them, names are no reserved words, and a minus sign is a form of its own
abbrev pub is_told : Expr → Bool
is_told (Number n) = is_natural n
is_told (Field x) = is_name x
is_told (EnumName x y) = is_name x && is_name y
is_told (KeyName x) = is_name x
is_told (Aggregate kind e) = is_told e
is_told (If c x y) = is_told c && (is_told x && is_told y)
is_told (Brackets e) = is_told e
is_told (Minus e) = nat_le 6 (bond e) && is_told e
is_told (Not e) = nat_le 2 (bond e) && is_told e
is_told (Binary op x y) = op_leans op x y && (is_told x && is_told y)
is_told (And x y) = leans 1 x y && (is_told x && is_told y)
is_told (Or x y) = leans 0 x y && (is_told x && is_told y)
is_told e = true

abbrev pub is_told_in : Option Expr → Bool
is_told_in None = true
is_told_in (Some e) = is_told e

abbrev pub are_told : Query → Bool
are_told q = list_all is_told q.columns && (is_told_in q.condition && is_told_in q.having)

-- ---- both

-- the text says the query: it is what the query is printed as, but for blanks and `-0` for a bound 0
pub record IsTextOf (text : List ℕ) (q : Query) : Type 0 where
  pub tokens : plain false (tokens text) ≡ plain false (put (query_tokens q) (End 0))
  pub told : are_told q ≡ true
