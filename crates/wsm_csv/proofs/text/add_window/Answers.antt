use Rattle.std.proofs.Common.{◌≡◌, ℕ, List, [], ◌∷◌, ◌++◌, ap, take, drop, map}
use Rattle.std.specs.Fmt.{signed_decimal}
use Rattle.wsm_semantics.specs.Text.{cell_text}
use Rattle.wsm_csv.specs.Lines.{cells_text, number_text}
use Rattle.wsm_csv.proofs.LineLemmas.{cells_text-behind, cell_texts-split, on_ok, take_behind}
use Rattle.wsm_csv.proofs.text.add_window.Goals as goal

pub returns : goal.returns
returns c =
    let count = c.count_numbers-count.result in
    let columns = c.args.columns.now in
    let schema = c.args.schema.now in
    let window : List (List ℕ) = signed_decimal c.args.window.start ∷ signed_decimal c.args.window.end ∷ [] in
    let front = window ++ map number_text (take count columns) in
    let back = map (cell_text schema) (drop count columns) in
    let split : window ++ map (cell_text schema) columns ≡ front ++ back = ap (λ cells. window ++ cells) (cell_texts-split schema columns count c.count_numbers-count.ensures.numbers) in
    on_ok c.add_columns.result
    (c.add_columns.new.out.items ≡ c.add_numbers.new.out.items ++ cells_text back)
    (c.add_columns.new.out.items ≡ c.args.out.now.items ++ cells_text (window ++ map (cell_text schema) columns))
    (λ e. cells_text-behind c.args.out.now.items c.add_numbers.new.out.items c.add_columns.new.out.items front back (window ++ map (cell_text schema) columns) split (c.in_ok-add_numbers).ensures e)
    (rw (take_behind count columns) at c.add_columns.ensures)
