use Rattle.std.proofs.Common.{◌≡◌, [], Some, sym, ap, subst, ◌∙◌}
use Rattle.std.specs.List.{cons_option}
use Rattle.wsm_windows.specs.Places.{at}
use Rattle.wsm_semantics.specs.Summaries.{written_by}
use Rattle.wsm_firing.specs.Retracting.{AreWithdrawn}
use Rattle.wsm_firing.proofs.ByPlace.{written-stands}
use Rattle.wsm_firing.proofs.retracting.retract.Goals as goal

pub returns-in-Some-Some-clause-rows : goal.returns-in-Some-Some-clause-rows
returns-in-Some-Some-clause-rows c = λ p key.
    let written : written_by p c.args.pane.now.stands ≡ Some (at c.args.key c.in-Some-Some.window, c.in-Some-Some.columns) =
    written-stands p c.args.pane.now.stands c.in-Some-Some.window c.in-Some-Some.columns (sym c.window.ensures ∙ c.in-Some-Some.is-0) (sym c.standing_row.ensures ∙ c.in-Some-Some.is-1)
    ∙ ap (λ k. Some (at k c.in-Some-Some.window, c.in-Some-Some.columns)) key in
    subst (λ (o : _). AreWithdrawn c.args.rows.now.written c.withdraw.new.self.written (cons_option o []) 1) (sym written) c.withdraw.ensures.written
