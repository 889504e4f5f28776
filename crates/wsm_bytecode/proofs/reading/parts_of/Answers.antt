use Rattle.std.proofs.Common.{refl, arith}
use Rattle.wsm_program.specs.View.{program_of}
use Rattle.wsm_bytecode.specs.Reading.{parts_at}
use Rattle.wsm_bytecode.proofs.CodedProgram.{parts_codes}
use Rattle.wsm_bytecode.proofs.reading.parts_of.Goals as goal

-- what was read is a program
pub of_parts-requires : goal.of_parts-requires
unfolding parts_at
of_parts-requires c =
    let sections = c.in_ok-sections.sections in
    let p = program_of c.in_ok-header.header sections.selection.items sections.update.items sections.fire.items in
    ((parts_codes c.args.version).taken c.args.bytes.now (p, c.in_ok-sections.rest.now) (λ i. omega (arith, c.type_inv.bytes i)) (rw (c.in_ok-header.ensures, c.in_ok-sections.ensures) refl)).good.0
