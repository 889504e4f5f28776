use Rattle.std.proofs.Common.{◌≤◌}
use Rattle.std.specs.Prelude.{codes}
use Rattle.wsm_tokens.specs.Read.{name, count}
use Rattle.wsm_query.specs.Grammar as rule
use Rattle.wsm_query.proofs.Braces.{TurnsGoOn}
use Rattle.wsm_query.proofs.clauses.names.Given as goal

-- the brace goes on behind what was read
abbrev pub invariant-loop-reader : goal.invariant-loop-reader
invariant-loop-reader l = record {
  goes_on : TurnsGoOn (codes ",") name l.names.items l.reader (rule.names l.fn.reader);
  onward : count l.reader ≤ count l.fn.reader;
}

abbrev pub decreases-loop-reader : goal.decreases-loop-reader
decreases-loop-reader l = count l.reader
