use Rattle.std.proofs.Common.{◌≡◌, ◌++◌, ◌∷◌, [], List, ℕ, codes, map, ap, ◌∙◌}
use Rattle.wsm_windows.specs.declared.window.Window.{Window}
use Rattle.wsm_semantics.specs.Text.{cell_text, joined, kind_word}
use Rattle.wsm_csv.specs.Lines.{cells_text, number_text, window_cells}
use Rattle.wsm_csv.proofs.LineLemmas.{joined-line, number_texts, on_ok}
use Rattle.wsm_csv.proofs.text.add_keyed_line.Goals as goal

pub returns-then-are_few_numbers : goal.returns-then-are_few_numbers
returns-then-are_few_numbers c =
    let schema = c.args.schema.now in
    let pane = c.in-Pane in
    let old = c.args.out.now.items in
    let new = c.add_short_line.new.out.items in
    let name = c.args.name.now in
    let columns = c.as_slice-columns.result.now in
    let front = codes "pane" ++ 44 ∷ kind_word pane.kind ++ 44 ∷ [] in
    let line_of : Window → List ℕ = λ w. front ++ (name ++ (cells_text (window_cells w ++ map number_text columns) ++ 10 ∷ [])) in
    let texts : map number_text columns ≡ map (cell_text schema) pane.columns =
    rw (← c.as_slice-columns.ensures) (number_texts schema columns (c.are_few_numbers.ensures.numbers c.if-are_few_numbers.true)) in
    let line : line_of pane.window ≡ joined (codes "pane" ∷ kind_word pane.kind ∷ name ∷ (window_cells pane.window ++ map (cell_text schema) pane.columns)) ++ 10 ∷ [] =
    rw texts (joined-line (codes "pane") (kind_word pane.kind) (name) (window_cells pane.window ++ map (cell_text schema) pane.columns)) in
    rw pane.is (on_ok c.add_short_line.result
    (new ≡ old ++ line_of c.set.new.self)
    (new ≡ old ++ (joined (codes "pane" ∷ kind_word pane.kind ∷ name ∷ (window_cells pane.window ++ map (cell_text schema) pane.columns)) ++ 10 ∷ []))
    (λ e. e ∙ ap (λ text. old ++ text) (ap line_of c.set.ensures ∙ line))
    c.add_short_line.ensures)
