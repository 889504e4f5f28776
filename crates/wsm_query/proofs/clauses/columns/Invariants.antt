use Rattle.std.proofs.Common.{◌≤◌, map}
use Rattle.std.specs.Prelude.{codes}
use Rattle.wsm_tokens.specs.Read.{count}
use Rattle.wsm_query.specs.Grammar as rule
use Rattle.wsm_query.specs.Seen.{seen_expr}
use Rattle.wsm_query.proofs.Braces.{TurnsGoOn}
use Rattle.wsm_query.proofs.clauses.columns.Given as goal

-- the brace goes on behind what was read
abbrev pub invariant-loop-alloc : goal.invariant-loop-alloc
invariant-loop-alloc l = record {
  goes_on : TurnsGoOn (codes ",") rule.expr (map seen_expr l.columns.items) l.reader (rule.list_of rule.expr l.fn.reader);
  onward : count l.reader ≤ count l.fn.reader;
}

abbrev pub decreases-loop-alloc : goal.decreases-loop-alloc
decreases-loop-alloc l = count l.reader
