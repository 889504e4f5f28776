use Rattle.std.proofs.Common.{◌≡◌, ◌∙◌, ◌++◌, ◌∷◌, [], ◌+◌, ◌<◌, List, ℕ, ap, sym, get_or, length, take, arith, append_assoc, append-nil}
use Rattle.csv.specs.Records.{fields_of}
use Rattle.wsm_row_watermarks.specs.Lines.{joined}
use Rattle.wsm_row_watermarks.proofs.Cells.{joined_first, joined_more}
use Rattle.wsm_row_watermarks.proofs.row.add_joined.Goals as goal
use Rattle.wsm_row_watermarks.proofs.row.add_joined.Goals.{then-at-ne0+in_ok-push, else-at-ne0}

pub loop-at-preserved : goal.loop-at-preserved
loop-at-preserved c =
    let all = fields_of c.args.cells.now in
    let old = c.args.line.now.items in
    let cell = get_or all c.loop-at.at [] in
    let within : c.loop-at.at < length all = omega (arith, c.loop-at-test.true, c.len-at-end.ensures) in
    let added : c.extend_from_slice.new.self.items ≡ c.if-at-ne0.line.items ++ cell = c.in_ok-extend_from_slice.ensures.items ∙ ap (λ (l : List ℕ). c.if-at-ne0.line.items ++ l) c.cell_at.ensures in
    elim c.if-at-ne0.branch [
      | then-at-ne0+in_ok-push w ↦
          let some : 0 < c.loop-at.at = omega (arith, w.if-at-ne0.true) in
          let pushed : w.push.new.self.items ≡ c.loop-at.line.items ++ 44 ∷ [] = w.in_ok-push.ensures.items in
          added ∙ (λ i. (w.line-is i).items ++ cell) ∙ (λ i. pushed i ++ cell) ∙ (λ i. (c.loop-at.invariant i ++ 44 ∷ []) ++ cell)
          ∙ append_assoc (old ++ joined (take c.loop-at.at all)) (44 ∷ []) cell
          ∙ append_assoc old (joined (take c.loop-at.at all)) (44 ∷ cell)
          ∙ ap (λ (l : List ℕ). old ++ l) (sym (joined_more all c.loop-at.at some within))
      | else-at-ne0 w ↦
          let none : c.loop-at.at ≡ 0 = w.if-at-ne0.false in
          let nothing : joined (take c.loop-at.at all) ≡ [] = ap (λ (n : ℕ). joined (take n all)) none in
          let first : joined (take (c.loop-at.at + 1) all) ≡ cell = ap (λ (n : ℕ). joined (take (n + 1) all)) none ∙ joined_first all cell (omega (arith, within)) (ap (λ (n : ℕ). get_or all n []) none) in
          added ∙ (λ i. (w.line-is i).items ++ cell) ∙ (λ i. c.loop-at.invariant i ++ cell) ∙ (λ i. (old ++ nothing i) ++ cell) ∙ (λ i. append-nil old i ++ cell) ∙ ap (λ (l : List ℕ). old ++ l) (sym first)
    ]
