use Rattle.std.proofs.Common.{◌≡◌, ◌∙◌, ◌++◌, ◌+◌, ◌*◌, ℕ, List, length, OnOk, Some, ap, sym, subst}
use Rattle.wsm_semantics.specs.Lines.{Out}
use Rattle.wsm_semantics.specs.ByNumber.{row_by}
use Rattle.wsm_semantics.specs.Text.{name_at}
use Rattle.wsm_semantics.specs.declared.out_row.OutRow.{OutRow}
use Rattle.wsm_key_parts.specs.Merged.{place_of}
use Rattle.wsm_part_engines.specs.Fits.{number_of}
use Rattle.wsm_csv.specs.KeyedLines.{keyed_text}
use Rattle.wsm_key_names.specs.Cell.{cells_of}
use Rattle.wsm_keyed_told.specs.KeyedLines.{keyed_line}
use Rattle.wsm_keyed_told.proofs.KeyedLines.{line_by_number}
use Rattle.wsm_keyed_told.proofs.rows.add_row.Goals as goal

same_Some : (x y : OutRow) → Some x ≡ Some y → x ≡ y
same_Some x y h = cc h

pub returns : goal.returns
returns c = λ row is.
    let d = c.args.parts.now.program.header.schema in
    let names = c.args.names.now in
    let found : OutRow = c.row-row.result.row.now in
    let number : ℕ → ℕ = number_of (length d.keys) c.row-row.result.part in
    let same : row_by number found ≡ row = same_Some (row_by number found) row (sym c.row-row.ensures ∙ is) in
    let cell : c.cell.result.now ≡ name_at (cells_of names) (number (place_of found).key) =
    c.cell.ensures ∙ ap (name_at (cells_of names)) c.number_of-number.ensures ∙ (λ i. name_at (cells_of names) (c.row-row.result.part * c.block.ensures.block i + c.place_of.ensures.key i)) in
    let text : keyed_text c.schema.result.now c.cell.result.now found ≡ keyed_line d names (Out row) =
    (λ i. keyed_text (c.schema.ensures i) (cell i) found) ∙ line_by_number d names number found ∙ ap (λ (r : OutRow). keyed_line d names (Out r)) same in
    subst (λ (l : List ℕ). OnOk c.keyed_row_text.result (c.keyed_row_text.new.out.items ≡ c.args.lines.now.items ++ l)) text c.keyed_row_text.ensures.text
