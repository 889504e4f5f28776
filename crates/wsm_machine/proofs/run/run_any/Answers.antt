use Rattle.std.proofs.Common.{◌≡◌, ◌∙◌, [], length, None, replicate, sym, ap, subst, arith}
use Rattle.std.specs.Prelude.{slice_get}
use Rattle.wsm_program.specs.Program.{Header}
use Rattle.wsm_machine.specs.declared.frame.Frame.{Frame}
use Rattle.wsm_machine.specs.declared.run.Ran.{Ran}
use Rattle.wsm_machine.specs.Inputs.{inputs_of}
use Rattle.wsm_machine.specs.Step.{Setting}
use Rattle.wsm_machine.specs.Run.{entry, run_at}
use Rattle.wsm_machine.specs.Steps.{HasOperand, setting_of, at}
use Rattle.wsm_machine.proofs.Operands.{few_kinds, operands, same_setting}
use Rattle.wsm_machine.proofs.Runs.{steps_at_most}
use Rattle.wsm_machine.proofs.run.run_any.Goals as goal

pub open-frame-requires : goal.open-frame-requires
open-frame-requires c =
    let kinds = ap (λ (h : Header). length h.kinds) c.header-header.ensures.header in
    let few = few_kinds c.args.program.now c.header-header.ensures.lawful in
    omega (arith, kinds, few, ap length c.deref.ensures.value, c.deref.ensures.len, c.len.ensures)

pub run-outcome-requires-clause-operands : goal.run-outcome-requires-clause-operands
run-outcome-requires-clause-operands c n i at_place =
    let p = c.args.program.now in
    let inputs = inputs_of c.args.inputs.now in
    let kinds = c.deref.ensures.value ∙ ap (λ (h : Header). h.kinds) c.header-header.ensures.header in
    let columns = c.deref-2.ensures.value ∙ ap (λ (h : Header). h.columns) c.header-header.ensures.header in
    let same = same_setting p c.args.section inputs _ _ _ c.section.ensures.instructions kinds columns in
    subst (λ (q : Setting). HasOperand q i) (sym same) (
    operands p c.args.section inputs c.header-header.ensures.lawful c.requires n i (ap (λ l. slice_get l n) (sym c.section.ensures.instructions) ∙ at_place)
    )

pub returns-clause-bounded : goal.returns-clause-bounded
returns-clause-bounded c =
    let setting = setting_of (record { section = c.args.section; code = c.section.result; kinds = c.deref.result; columns = c.deref-2.result; inputs = c.args.inputs }) in
    let many : c.len.result ≡ length setting.kinds = c.len.ensures ∙ sym c.deref.ensures.len in
    let fresh : at 0 c.open-frame.result ≡ entry setting = ap (λ (m : Frame). at 0 m) c.open-frame.ensures ∙ ap (λ k. record { place = 0; stack = []; folds = replicate k None }) many in
    let ran = ap (λ (r : Ran). r.steps) (ap (run_at setting) (sym fresh) ∙ c.run-outcome.ensures) in
    omega (arith, steps_at_most setting, ran, ap length c.section.ensures.instructions)
