use Rattle.std.proofs.Common.{◌∙◌, ◌++◌, ◌∷◌, [], List, ℕ, ap, append_assoc, get_or, take}
use Rattle.csv.specs.Writing.{default_writer, escaped}
use Rattle.csv.proofs.WriteFacts.{quoted-step}
use Rattle.wsm_deal.proofs.row_text.add_quoted.Goals as goal

pub loop-byte-init : goal.loop-byte-init
unfolding escaped
loop-byte-init c = c.in_ok-push.ensures.items

pub loop-byte-preserved : goal.loop-byte-preserved
loop-byte-preserved c =
    let cell = c.args.cell.now in
    let out = c.args.out.now.items in
    let i = c.loop-byte.byte-index in
    let one = escaped default_writer (get_or cell i 0 ∷ []) in
    c.in_ok-add_escaped.ensures
    ∙ ap (λ (t : List ℕ). t ++ one) c.loop-byte.invariant
    ∙ append_assoc out (34 ∷ escaped default_writer (take i cell)) one
    ∙ ap (λ (t : List ℕ). out ++ t) (quoted-step default_writer 34 cell i c.loop-byte-test.true)
