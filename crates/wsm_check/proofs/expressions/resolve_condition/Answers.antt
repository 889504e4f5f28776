use Rattle.std.proofs.Common.{option_map, ap}
use Rattle.wsm_query.specs.Seen.{seen_expr}
use Rattle.wsm_check.specs.Seen.{seen_term}
use Rattle.wsm_check.proofs.AddedColumns.{condition_passed, condition_resolved}
use Rattle.wsm_check.proofs.expressions.resolve_condition.Goals as goal

pub returns-clause-judged : goal.returns-clause-judged
returns-clause-judged c = λ q h. condition_passed q _ c.args.place.part _ _ _ _ _ (ap (option_map seen_expr) c.in-Some.is) (c.in_ok-term.ensures.resolved q h)

pub returns-clause-resolved : goal.returns-clause-resolved
returns-clause-resolved c = λ q h. condition_resolved q _ _ _ _ _ _ _ _ (ap (option_map seen_expr) c.in-Some.is) (c.in_ok-term.ensures.resolved q h) (ap seen_term c.into_inner.ensures)
