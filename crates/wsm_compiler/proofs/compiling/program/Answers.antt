use Rattle.std.proofs.Common.{sym, ◌∙◌, ap, arith}
use Rattle.std.proofs.lemmas.List.{length-map}
use Rattle.wsm_program.specs.Program.{is_program}
use Rattle.wsm_check.specs.Seen.{seen_folding, seen_parts}
use Rattle.wsm_compiler.proofs.AssembledProgram.{selection_fits, update_fits, few_foldings, fire_fits, is_program_of, put_together}
use Rattle.wsm_compiler.proofs.compiling.program.Goals as goal

pub selection-requires : goal.selection-requires
selection-requires c = selection_fits (seen_parts c.args.checked.parts) c.args.checked.of_checked

pub update-requires-clause-size : goal.update-requires-clause-size
update-requires-clause-size c = rw c.deref.ensures.value (update_fits (seen_parts c.args.checked.parts) c.args.checked.of_checked)

pub update-requires-clause-few : goal.update-requires-clause-few
update-requires-clause-few c = rw c.deref.ensures.value (omega (arith, few_foldings (seen_parts c.args.checked.parts) c.args.checked.of_checked, length-map c.args.checked.parts.foldings.items seen_folding))

pub fire-requires : goal.fire-requires
fire-requires c = rw c.deref-2.ensures.value (fire_fits (seen_parts c.args.checked.parts) c.args.checked.of_checked)

pub of_parts-requires : goal.of_parts-requires
of_parts-requires c =
    let p = seen_parts c.args.checked.parts in
    let update = rw c.deref.ensures.value at c.in_ok-update.ensures in
    let fire = rw c.deref-2.ensures.value at c.in_ok-fire.ensures in
    let same = put_together p c.args.budget _ _ _ _ c.in_ok-header.ensures c.in_ok-selection.ensures update fire in
    sym (ap is_program same) ∙ is_program_of p c.args.checked.of_checked c.args.budget c.requires
