-- Steps of the rules: what a function reads by one, a level, or a turn of a chain, taken of those that are left, a number, and the parts of chains.
use Rattle.std.specs.Prelude.{ℕ, zero, suc, ◌≤◌, List, Option, Result}
use Rattle.wsm_tokens.specs.declared.fault.Stop.{Stop}
use Rattle.wsm_tokens.specs.Tokens.{Tokens}
use Rattle.wsm_tokens.specs.Read.{Rule, Gives, Took, Stopped, ◌>>=◌, count, give, too_deep, behind, number}
use Rattle.wsm_query.specs.declared.parse_expr.Bond.{Bond}
use Rattle.wsm_query.specs.declared.parse_expr.Bond.TheVariants as bonds
use Rattle.wsm_query.specs.declared.parse_expr.Link.{Link}
use Rattle.wsm_query.specs.declared.parse_expr.Link.TheVariants as links
use Rattle.wsm_query.specs.Tree.{Expr, Number, Binary, And, Or}
use Rattle.wsm_query.specs.Grammar.{ors, ands, sums, products, conj, neg, prod, unary, Deeper, deeper, levels}

-- the code answered what a rule reads of the tokens before, and no more tokens are left than those
pub record Reads {X A : Type 0} (view : X → A) (result : Result X Stop) (rest : Tokens) (rule : Rule A) (before : Tokens) : Type 0 where
  pub gives : Gives view result rest (rule before)
  pub onward : count rest ≤ count before

-- takes the next token where one more is left, and leaves one fewer
abbrev pub spend : ℕ → Rule ℕ
spend zero ts = Stopped (too_deep ts)
spend (suc n) ts = Took n (behind ts)

-- the rules where n levels are left
abbrev pub at_level : ℕ → Deeper
at_level n = deeper (levels n)

-- a number as an expression
unfoldable pub numbered : Rule Expr
numbered = number >>= λ n. give (Number n)

-- what stands between the operands of a chain, and what they are
abbrev pub table_of : Bond → List (List ℕ × (Expr → Expr → Expr))
table_of bonds.Or = ors
table_of bonds.And = ands
table_of bonds.Sum = sums
table_of bonds.Product = products

abbrev pub operand_of : Bond → Option Deeper → Rule Expr
operand_of bonds.Or = conj
operand_of bonds.And = neg
operand_of bonds.Sum = prod
operand_of bonds.Product = unary

-- the tree of two operands
abbrev pub made : Link → Expr → Expr → Expr
made links.Or = Or
made links.And = And
made (links.Binary op) = Binary op
