use Rattle.std.proofs.Common.{map, refl, ap}
use Rattle.wsm_query.specs.Seen.{seen}
use Rattle.wsm_check.specs.Seen.{seen_folding}
use Rattle.wsm_check.proofs.ResolvedQuery.{all_resolved}
use Rattle.wsm_check.proofs.expressions.resolve_expressions.Goals as goal

pub returns-clause-resolved : goal.returns-clause-resolved
returns-clause-resolved c =
    let q = seen c.args.query.now in
    let schema = c.requires.schema in
    let tested = rw c.new-none.ensures.items at (c.in_ok-condition.ensures.resolved q schema) in
    let shown = rw c.deref.ensures.value at (c.in_ok-resolve_columns.ensures.resolved q schema) in
    all_resolved q _ (map seen_folding c.resolve_condition.new.foldings.items) (record { types = c.new.result; columns = c.new-2.result; foldings = c.new-3.result }) c.resolve_columns.new.fired
    (c.in_ok-condition.ensures.judged q schema) tested shown (c.in_ok-having.ensures.resolved q schema) c.new.ensures.items c.new-2.ensures.items (ap (map seen_folding) c.new-3.ensures.items) refl refl
