use Rattle.std.proofs.Common.{◌≡◌, ◌∙◌, ◌++◌, ◌∷◌, [], List, ℕ, ap, sym, refl, append_assoc}
use Rattle.csv.specs.Writing.{default_writer, escaped}
use Rattle.csv.proofs.WriteFacts.{escaped-double, escaped-other}
use Rattle.wsm_deal.proofs.row_text.add_escaped.Goals as goal
use Rattle.wsm_deal.proofs.row_text.add_escaped.Goals.{then-byte-eq34+in_ok-push, else-byte-eq34}

pub returns : goal.returns
returns c =
    let b = c.args.byte in
    let out = c.args.out.now.items in
    elim c.if-byte-eq34.branch [
      | then-byte-eq34+in_ok-push w ↦
          let last = rw (w.out-is, w.in_ok-push.ensures.items) at c.in_ok-push-2.ensures.items in
          let two : 34 ∷ b ∷ [] ≡ escaped default_writer (b ∷ []) = ap (λ (x : ℕ). x ∷ b ∷ []) (sym w.if-byte-eq34.true) ∙ sym (escaped-double default_writer b w.if-byte-eq34.true refl) in
          last ∙ append_assoc out (34 ∷ []) (b ∷ []) ∙ ap (λ (t : List ℕ). out ++ t) two
      | else-byte-eq34 w ↦
          let last = rw w.out-is at c.in_ok-push-2.ensures.items in
          last ∙ ap (λ (t : List ℕ). out ++ t) (sym (escaped-other default_writer b w.if-byte-eq34.false))
    ]
