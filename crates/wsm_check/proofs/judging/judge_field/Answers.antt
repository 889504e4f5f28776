use Rattle.std.proofs.Common.{not, sym, ap, ◌∙◌}
use Rattle.std.proofs.lemmas.Result.{err_from_is_err_and}
use Rattle.wsm_record.specs.Fields.{declared_field}
use Rattle.wsm_check.proofs.ChecksInOrder.{field_refused}
use Rattle.wsm_check.proofs.judging.judge_field.Goals as goal

pub returns-in_err-ty-clause-judged : goal.returns-in_err-ty-clause-judged
returns-in_err-ty-clause-judged c =
    let p = err_from_is_err_and c.from_residual-in_err-ty.result c.from_residual-in_err-ty.ensures.1 in
    let new = ap not (sym c.has_field-is_fresh.ensures) ∙ c.in_ok-want-2.ensures.holds in
    rw (p.1, p.2) (field_refused c.args.before.now (declared_field c.args.field.now) c.in_err-ty.field-0.0 c.in_ok-want.ensures.holds new c.in_err-ty.ensures.judged)
