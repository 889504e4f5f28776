use Rattle.std.proofs.Common.{◌≤◌, map}
use Rattle.std.specs.Prelude.{codes}
use Rattle.wsm_tokens.specs.Read.{count}
use Rattle.wsm_query.specs.Grammar as rule
use Rattle.wsm_record.specs.Fields.{declared_field}
use Rattle.wsm_query.proofs.Braces.{TurnsGoOn}
use Rattle.wsm_query.proofs.clauses.fields.Given as goal

-- the brace goes on behind what was read
abbrev pub invariant-loop-alloc : goal.invariant-loop-alloc
invariant-loop-alloc l = record {
  goes_on : TurnsGoOn (codes "FIELD") rule.field (map declared_field l.fields.items) l.reader (rule.brace (codes "FIELD") rule.field l.fn.reader);
  onward : count l.reader ≤ count l.fn.reader;
}

abbrev pub decreases-loop-alloc : goal.decreases-loop-alloc
decreases-loop-alloc l = count l.reader
