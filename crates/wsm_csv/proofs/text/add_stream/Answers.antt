use Rattle.std.proofs.Common.{to_z-of_z, w64, SFits, ◌≡◌, ℕ, List, [], ◌∷◌, ◌++◌, ap, take, drop, map}
use Rattle.std.specs.Fmt.{signed_decimal}
use Rattle.wsm_semantics.specs.Text.{cell_text}
use Rattle.wsm_csv.specs.Lines.{cells_text, number_text}
use Rattle.wsm_csv.proofs.LineLemmas.{word_and-behind, cell_texts-split, on_ok, take_behind}
use Rattle.wsm_csv.proofs.text.add_stream.Goals as goal

pub returns : goal.returns
returns c =
    let fits : SFits w64 c.args.mark = c.ranges.mark in
    let count = c.count_numbers-count.result in
    let columns = c.as_slice-columns.result.now in
    let schema = c.args.schema.now in
    let mark : List (List ℕ) = signed_decimal c.args.mark ∷ [] in
    let front = mark ++ map number_text (take count columns) in
    let back = map (cell_text schema) (drop count columns) in
    let split : mark ++ map (cell_text schema) columns ≡ front ++ back = ap (λ cells. mark ++ cells) (cell_texts-split schema columns count c.count_numbers-count.ensures.numbers) in
    on_ok c.add_columns.result
    (c.add_columns.new.out.items ≡ c.add_marked_numbers.new.out.items ++ cells_text back)
    (c.add_columns.new.out.items ≡ c.args.out.now.items ++ (c.args.word.now ++ cells_text (mark ++ map (cell_text schema) c.args.columns.now)))
    (λ e. rw c.as_slice-columns.ensures at (word_and-behind c.args.out.now.items c.args.word.now c.add_marked_numbers.new.out.items c.add_columns.new.out.items front back (mark ++ map (cell_text schema) columns) split (simp to_z-of_z at (c.in_ok-add_marked_numbers).ensures) e))
    (rw (take_behind count columns) at c.add_columns.ensures)
