use Rattle.std.proofs.Common.{List, sym, subst, ◌∙◌}
use Rattle.std.specs.Prelude.{option_map}
use Rattle.wsm_record.specs.declared.event.Value.{Value}
use Rattle.wsm_semantics.specs.Summaries.{Pane}
use Rattle.wsm_firing.specs.Fires.{IsRun}
use Rattle.wsm_firing.proofs.Walk.{some_same}
use Rattle.wsm_firing.proofs.operator.WindowOperator.fire_held.Goals as goal

pub run-ran-requires : goal.run-ran-requires
run-ran-requires c = (c.requires.can c.pane-pane.result c.pane-pane.ensures).each.0

pub fire-requires-clause-run : goal.fire-requires-clause-run
fire-requires-clause-run c = λ h found.
    subst (λ (x : Pane (List Value)). IsRun c.args.verified.now c.args.due x (option_map (λ cells. cells.now) c.run-ran.result.row) c.run-ran.result.steps)
    (some_same (sym c.pane-pane.ensures ∙ found)) c.run-ran.ensures.ran
