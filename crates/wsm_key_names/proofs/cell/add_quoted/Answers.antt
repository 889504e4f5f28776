use Rattle.std.proofs.Common.{◌∙◌, ◌++◌, ◌∷◌, [], List, ℕ, ap, get_or}
use Rattle.wsm_key_names.specs.Cell.{doubled}
use Rattle.wsm_key_names.proofs.NameCells.{doubled_more}
use Rattle.wsm_key_names.proofs.cell.add_quoted.Goals as goal

pub loop-byte-init : goal.loop-byte-init
unfolding doubled
loop-byte-init c = c.in_ok-push.ensures.items

pub loop-byte-preserved : goal.loop-byte-preserved
loop-byte-preserved c =
    let name = c.args.name.now in
    let i = c.loop-byte.byte-index in
    c.in_ok-add_doubled.ensures
    ∙ ap (λ (t : List ℕ). t ++ doubled (get_or name i 0 ∷ [])) c.loop-byte.invariant
    ∙ doubled_more c.args.out.now.items name i c.loop-byte-test.true
