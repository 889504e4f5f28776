use Rattle.std.proofs.Common.{◌∙◌, length, ap, arith}
use Rattle.serde_json.specs.Data.{array}
use Rattle.serde_json.specs.View.{items_of}
use Rattle.wsm_program.specs.Program.{Header}
use Rattle.wsm_explain.specs.Program.{ranges_up_to}
use Rattle.wsm_explain.proofs.Few.{few_kinds}
use Rattle.wsm_explain.proofs.program.ranges_value.Goals as goal

pub ranges_up_to-requires : goal.ranges_up_to-requires
ranges_up_to-requires c =
    let kinds = ap (λ (h : Header). length h.kinds) c.header.ensures.header in
    let few = few_kinds c.program.result.now c.header.ensures.lawful in
    omega (arith, kinds, few)
