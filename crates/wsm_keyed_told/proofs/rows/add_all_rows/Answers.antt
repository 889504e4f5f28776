use Rattle.std.proofs.Common.{◌≡◌, ◌∙◌, ◌+◌, ◌++◌, ◌∷◌, ◌<◌, ℕ, suc, List, [], length, take, map, get_or, pos, sym, ap, append-nil, append_assoc, arith}
use Rattle.std.proofs.Math.Seq.{take-suc}
use Rattle.std.proofs.lemmas.Option.{slice_get-get_or}
use Rattle.std.proofs.lemmas.List.{map-append, take_all}
use Rattle.wsm_semantics.specs.Lines.{Line, Out}
use Rattle.wsm_semantics.specs.declared.out_row.OutRow.{OutRow}
use Rattle.wsm_semantics.specs.declared.out_row.OutRow.TheVariants.{Rstream}
use Rattle.wsm_keyed_told.specs.KeyedLines.{keyed_line, keyed_lines}
use Rattle.wsm_keyed_told.proofs.KeyedLines.{keyed_both}
use Rattle.wsm_keyed_told.proofs.rows.add_all_rows.Goals as goal

pub loop-i-preserved : goal.loop-i-preserved
loop-i-preserved c =
    let rows : List OutRow = c.args.parts.now.rows in
    let d = c.args.parts.now.program.header.schema in
    let names : List (List ℕ) = c.args.names.now in
    let old : List ℕ = c.args.lines.now.items in
    let i : ℕ = c.loop-i.i in
    let none : OutRow = Rstream (pos 0) [] in
    let row : OutRow = get_or rows i none in
    let end = c.row_count-i-end.ensures in
    let test = c.loop-i-test.true in
    let within : i < length rows = omega (arith, test, end) in
    let written = c.in_ok-add_row.ensures row (slice_get-get_or rows i none within) in
    let one : i + 1 ≡ suc i = omega arith in
    let next : take (i + 1) rows ≡ take i rows ++ row ∷ [] = ap (λ (n : ℕ). take n rows) one ∙ take-suc rows i none within in
    let so_far : List Line = map (λ (r : OutRow). Out r) (take i rows) in
    let more : keyed_lines d names (map (λ (r : OutRow). Out r) (take (i + 1) rows)) ≡ keyed_lines d names so_far ++ keyed_line d names (Out row) =
    ap (λ (rs : List OutRow). keyed_lines d names (map (λ (r : OutRow). Out r) rs)) next
    ∙ ap (keyed_lines d names) (map-append (λ (r : OutRow). Out r) (take i rows) (row ∷ []))
    ∙ keyed_both d names so_far (Out row ∷ [])
    ∙ ap (λ (l : List ℕ). keyed_lines d names so_far ++ l) (append-nil (keyed_line d names (Out row))) in
    written ∙ ap (λ (l : List ℕ). l ++ keyed_line d names (Out row)) c.loop-i.invariant ∙ append_assoc old (keyed_lines d names so_far) (keyed_line d names (Out row))
    ∙ ap (λ (l : List ℕ). old ++ l) (sym more)

pub returns : goal.returns
returns c =
    let rows : List OutRow = c.args.parts.now.rows in
    let d = c.args.parts.now.program.header.schema in
    let names : List (List ℕ) = c.args.names.now in
    let old : List ℕ = c.args.lines.now.items in
    let end = c.row_count-i-end.ensures in
    let test = c.loop-i-test.false in
    c.loop-i.invariant ∙ ap (λ (rs : List OutRow). old ++ keyed_lines d names (map (λ (r : OutRow). Out r) rs)) (take_all c.loop-i.i rows (omega (arith, test, end)))
