use Rattle.std.proofs.Common.{length, ap, arith}
use Rattle.wsm_program.specs.Program.{Header}
use Rattle.wsm_machine.proofs.Operands.{few_kinds}
use Rattle.wsm_machine.proofs.inputs.Inputs.in_range.Goals as goal

pub accs_in-requires : goal.accs_in-requires
accs_in-requires c =
    let kinds = ap (λ (h : Header). length h.kinds) c.header-header.ensures.header in
    let few = few_kinds c.program.result.now c.header-header.ensures.lawful in
    omega (arith, kinds, few, ap length c.deref.ensures.value, c.deref.ensures.len)
