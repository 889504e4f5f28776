use Rattle.std.proofs.Common.{◌∙◌, ◌++◌, ◌∷◌, [], List, ℕ, ap, sym, append_assoc}
use Rattle.wsm_key_names.proofs.NameCells.{doubled_one, doubled_two}
use Rattle.wsm_key_names.proofs.cell.add_doubled.Goals as goal
use Rattle.wsm_key_names.proofs.cell.add_doubled.Goals.{then-byte-eq34+in_ok-push, else-byte-eq34}

pub returns : goal.returns
returns c =
    let b = c.args.byte in
    let out = c.args.out.now.items in
    elim c.if-byte-eq34.branch [
      | then-byte-eq34+in_ok-push w ↦
          let last = rw (w.out-is, w.in_ok-push.ensures.items) at c.in_ok-push-2.ensures.items in
          last ∙ append_assoc out (34 ∷ []) (b ∷ []) ∙ ap (λ (t : List ℕ). out ++ t) (sym (doubled_two b w.if-byte-eq34.true))
      | else-byte-eq34 w ↦
          let last = rw w.out-is at c.in_ok-push-2.ensures.items in
          last ∙ ap (λ (t : List ℕ). out ++ t) (sym (doubled_one b w.if-byte-eq34.false))
    ]
