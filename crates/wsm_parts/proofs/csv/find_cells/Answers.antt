use Rattle.std.proofs.Common.{◌≡◌, ◌∙◌, ap, length, drop, arith}
use Rattle.std.proofs.Math.Seq.{drop-length}
use Rattle.wsm_parts.specs.Csv.{cells_from, cells_of, finished, only_if}
use Rattle.wsm_parts.specs.Spans.{row_seen, texts_of}
use Rattle.wsm_parts.proofs.CsvLemmas.{ok_as}
use Rattle.wsm_parts.proofs.csv.find_cells.Goals as goal

pub returns : goal.returns
returns c =
    let line = c.args.line.now in
    let spans = c.loop-i.spans.items in
    let separator = c.args.separator in
    let end : c.loop-i.i ≡ length line = omega arith in
    let said = c.loop-i.invariant.row
    ∙ ap (λ n. cells_from separator (row_seen line n c.loop-i.cursor spans) (drop n line)) end
    ∙ ap (cells_from separator (row_seen line (length line) c.loop-i.cursor spans)) (drop-length line) in
    ok_as c.finish.result line (cells_of separator line)
    (λ text. finished (row_seen text (length line) c.loop-i.cursor spans) c.loop-i.cursor.spot)
    (λ text whole. only_if whole (texts_of text c.finish.new.spans.items)) c.finish.ensures said
