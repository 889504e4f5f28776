use Rattle.std.proofs.Common.{◌≡◌, ◌∙◌, ap, sym, ◌++◌, ◌∷◌, ◌+◌, ◌-◌, [], List, ℕ, arith, drop, length, take}
use Rattle.std.proofs.lemmas.List.{drop-drop, length-drop, take_all}
use Rattle.std.proofs.lemmas.Result.{on_ok_weaker}
use Rattle.csv.specs.Records.{fields_of}
use Rattle.wsm_row_watermarks.specs.Lines.{cells_of}
use Rattle.wsm_row_watermarks.proofs.Cells.{more_cells, one_cell}
use Rattle.wsm_row_watermarks.proofs.row.read_cells.Goals as goal

pub loop-end-preserved : goal.loop-end-preserved
loop-end-preserved c =
    let rest = c.loop-end.rest.now in
    let end = c.in-Some.end in
    let found = c.in-Some.ensures in
    let behind = c.split_at.result.1.now in
    let there : behind ≡ drop end rest = c.split_at.ensures.back in
    let left : take (length behind - 1) (drop 1 behind) ≡ drop (end + 1) rest =
    take_all (length behind - 1) (drop 1 behind) (omega (arith, length-drop 1 behind)) ∙ ap (λ (l : List ℕ). drop 1 l) there ∙ drop-drop 1 end rest in
    record {
      partial = c.in_ok-push_field.ensures.partial;
      cells = (λ i. c.in_ok-push_field.ensures.fields i ++ cells_of (left i))
          ∙ (λ i. (fields_of c.loop-end.cells ++ ((c.loop-end.invariant.partial i ++ c.split_at.ensures.front i) ∷ [])) ++ cells_of (drop (end + 1) rest))
          ∙ more_cells (fields_of c.loop-end.cells) c.args.text.now rest end found.0.high (λ k h is. found.0.before k (omega arith) h is) found.1 c.loop-end.invariant.cells;
    }

pub returns : goal.returns
returns c =
    let rest = c.loop-end.rest.now in
    let last : cells_of rest ≡ rest ∷ [] = one_cell rest (λ k h. c.in_default.ensures k (omega arith) h) in
    on_ok_weaker c.push_field-2.result (λ fields. fields
    ∙ (λ i. fields_of c.loop-end.cells ++ ((c.loop-end.invariant.partial i ++ rest) ∷ []))
    ∙ ap (λ (cs : List (List ℕ)). fields_of c.loop-end.cells ++ cs) (sym last)
    ∙ c.loop-end.invariant.cells) c.push_field-2.ensures.fields
