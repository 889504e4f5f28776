use Rattle.std.proofs.Common.{ℕ, ◌+◌, ◌*◌, ◌≤◌}
use Rattle.wsm_tokens.specs.Read.{count}
use Rattle.wsm_query.specs.declared.parse_expr.Bond.{Bond}
use Rattle.wsm_query.specs.declared.parse_expr.Bond.TheVariants.{Or, And, Sum, Product}
use Rattle.wsm_query.specs.Grammar.{chained, levels}
use Rattle.wsm_query.specs.Seen.{seen_expr}
use Rattle.wsm_query.specs.Steps.{operand_of, table_of}
use Rattle.wsm_query.proofs.Chains.{GoesOn}
use Rattle.wsm_query.proofs.parse_expr.+expr.Given as goal

-- each rule calls those below it at the same level, and any a level deeper
abbrev pub decreases-aggregate : goal.decreases-aggregate
decreases-aggregate l = 16 * l.room + 0

abbrev pub decreases-choice : goal.decreases-choice
decreases-choice l = 16 * l.room + 0

abbrev pub decreases-branch : goal.decreases-branch
decreases-branch l = 16 * l.room + 14

abbrev pub decreases-brackets : goal.decreases-brackets
decreases-brackets l = 16 * l.room + 0

abbrev pub decreases-atom : goal.decreases-atom
decreases-atom l = 16 * l.room + 1

abbrev pub decreases-unary : goal.decreases-unary
decreases-unary l = 16 * l.room + 2

abbrev pub decreases-cmp : goal.decreases-cmp
decreases-cmp l = 16 * l.room + 7

abbrev pub decreases-neg : goal.decreases-neg
decreases-neg l = 16 * l.room + 8

abbrev pub decreases-expr : goal.decreases-expr
decreases-expr l = 16 * l.room + 13

-- the place of a chain's operands among the rules
abbrev pub rank : Bond → ℕ
rank Product = 3
rank Sum = 5
rank And = 9
rank Or = 11

abbrev pub decreases-operand : goal.decreases-operand
decreases-operand l = 16 * l.room + rank l.bond

abbrev pub decreases-chain : goal.decreases-chain
decreases-chain l = 16 * l.room + (rank l.bond + 1)

-- the chain goes on behind the tree so far
abbrev pub invariant-chain-loop-link : goal.invariant-chain-loop-link
invariant-chain-loop-link l = record {
  goes_on : GoesOn l.turns (table_of l.bond) (operand_of l.bond (levels l.room)) (seen_expr l.left.value) l.reader (chained (table_of l.bond) (operand_of l.bond (levels l.room)) l.fn.reader);
  onward : count l.reader ≤ count l.fn.reader;
}

abbrev pub decreases-chain-loop-link : goal.decreases-chain-loop-link
decreases-chain-loop-link l = l.turns
