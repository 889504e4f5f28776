use Rattle.std.proofs.Common.{◌∙◌, ap, List, ℕ}
use Rattle.std.specs.Prelude.{Some, option_map, slice_index}
use Rattle.wsm_parts.specs.Csv.{moved, row_with}
use Rattle.wsm_parts.specs.Spans.{row_seen, texts_of}
use Rattle.wsm_parts.proofs.CsvLemmas.{part_more}
use Rattle.wsm_parts.proofs.csv.advance.Goals as goal

pub returns-in-Some-Adds-clause-row : goal.returns-in-Some-Adds-clause-row
returns-in-Some-Adds-clause-row c =
    let line = c.args.line.now in
    let i = c.args.i in
    let row = row_seen line i c.args.cursor c.args.spans.now.items in
    let byte = slice_index line i in
    ap (λ (b : List ℕ). Some (row_with c.in-Some-Adds.spot b (texts_of line c.args.spans.now.items))) (part_more line c.args.cursor.start i c.requires.begun c.requires.inside)
    ∙ ap (option_map (moved row byte)) (rw c.in-Some-Adds.field-0-is at c.in-Some-Adds.ensures)
