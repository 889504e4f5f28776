use Rattle.std.proofs.Common.{arith, ℕ, length, length-set, length-take, sym, ap, ◌∙◌, drop, replicate, ◌+◌, ◌-◌, ◌≡◌, pos}
use Rattle.std.proofs.lemmas.List.{drop-set-lt, drop-drop, drop-replicate}
use Rattle.wsm_record.specs.declared.cell.Cell.TheVariants.{Int}
use Rattle.wsm_record.proofs.columns.Columns.push.Goals as goal

pub invariant_of-self : goal.invariant_of-self
invariant_of-self c =
    let n = c.self.inside.len in
    let cells = c.self.inside.cells in
    let left : 16 - n - 1 ≡ 16 - (n + 1) = omega arith in (
      omega (arith, simp length-take at (ap length c.self.view_is)),
      rw length-set c.self.invariant.1,
      drop-set-lt (n + 1) cells n c.args.cell (omega arith)
          ∙ sym (drop-drop 1 n cells)
          ∙ ap (drop 1) c.self.invariant.2
          ∙ drop-replicate 1 (16 - n) (Int (pos 0))
          ∙ ap (λ (m : ℕ). replicate m (Int (pos 0))) left,
    )
