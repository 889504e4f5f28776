use Rattle.std.proofs.Common.{sym, ap, ◌∙◌}
use Rattle.std.specs.Ordering.{is_eq}
use Rattle.wsm_semantics.specs.Relation.{row_cmp}
use Rattle.wsm_relation.proofs.Merging.{first-apart, not_equal}
use Rattle.wsm_relation.proofs.finding.first_number.Goals as goal

pub returns-in_default : goal.returns-in_default
returns-in_default c = sym (first-apart c.args.rows.now c.args.steps.now c.args.row.now c.requires.delta c.requires.first (ap (λ x. is_eq (row_cmp c.args.row.now x)) (sym c.cells_at.ensures) ∙ ap is_eq (sym c.row_order.ensures) ∙ not_equal c.row_order.result c.in_default.not-Equal))
