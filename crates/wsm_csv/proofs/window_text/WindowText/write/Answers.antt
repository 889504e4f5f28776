use Rattle.std.proofs.Common.{◌++◌, List, ℕ, drop, arith, ap, ◌∙◌}
use Rattle.wsm_windows.specs.declared.window.Window.{Window}
use Rattle.wsm_csv.specs.Lines.{cells_text, window_cells}
use Rattle.wsm_csv.proofs.LineLemmas.{drop_behind}
use Rattle.wsm_csv.proofs.window_text.WindowText.write.Goals as goal

pub returns-clause-written : goal.returns-clause-written
returns-clause-written c =
    let written = c.write_text in
    let kept = c.self.inside in
    let behind : List ℕ = drop c.args.end c.args.cells.now in
    drop_behind written.result kept.start written.new.cells kept.cells behind written.ensures.written (omega (arith, c.self.invariant.0, c.self.invariant.1))
    ∙ ap (λ text. text ++ behind) c.self.invariant.2
    ∙ ap (λ (w : Window). cells_text (window_cells w) ++ behind) c.self.view_is
