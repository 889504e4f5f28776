use Rattle.std.proofs.Common.{refl, sym, ◌∙◌}
use Rattle.std.proofs.lemmas.Result.{err_from_is_err_and}
use Rattle.wsm_bytecode.specs.Steps.{field_type_at}
use Rattle.wsm_bytecode.proofs.Loop.{fails_so, new_field_named, new_field_taken}
use Rattle.wsm_bytecode.proofs.reading.schema.new_field_of.Goals as goal

pub returns-then-has_field : goal.returns-then-has_field
returns-then-has_field c =
    new_field_taken c.args.before.now c.args.bytes.now c.in_ok-name.name c.in_ok-name.rest.now c.in_ok-name.ensures (sym c.has_field.ensures ∙ c.if-has_field.true)

pub returns-in_err-ty : goal.returns-in_err-ty
returns-in_err-ty c =
    let p = err_from_is_err_and c.from_residual-in_err-ty.result c.from_residual-in_err-ty.ensures.1 in
    let named = new_field_named c.args.before.now c.args.bytes.now c.in_ok-name.name c.in_ok-name.rest.now c.in_ok-name.ensures (sym c.has_field.ensures ∙ c.if-has_field.false) in
    rw (p.1, p.2, named) (fails_so c.in_err-ty.field-0.0 (field_type_at c.in_ok-name.rest.now) _ c.in_err-ty.ensures)

pub returns : goal.returns
returns c =
    let named = new_field_named c.args.before.now c.args.bytes.now c.in_ok-name.name c.in_ok-name.rest.now c.in_ok-name.ensures (sym c.has_field.ensures ∙ c.if-has_field.false) in
    rw (named, c.in_ok-ty.ensures) refl
