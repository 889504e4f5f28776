use Rattle.std.proofs.Common.{[], ◌∷◌, ◌++◌, map}
use Rattle.std.proofs.lemmas.Result.{err_from_is_err_and}
use Rattle.std.proofs.lemmas.List.{map_push}
use Rattle.wsm_record.specs.Fields.{field_seen}
use Rattle.wsm_bytecode.specs.Steps.{new_field_at, fields_after}
use Rattle.wsm_bytecode.proofs.Loop.{goes_on, ends}
use Rattle.wsm_bytecode.proofs.reading.schema.so_many_fields.Goals as goal

pub returns-in_err-field : goal.returns-in_err-field
returns-in_err-field c =
    let p = err_from_is_err_and c.from_residual.result c.from_residual.ensures.1 in
    let fails = rw c.deref.ensures.value at c.in_err-field.ensures in
    rw (p.1, p.2) (ends (λ names f. names ++ f.name ∷ []) new_field_at (map field_seen c.loop.fields.items) c.args.count c.loop.counter (map (λ f. f.name) c.loop.fields.items) c.loop.rest.now (fields_after [] c.args.count c.args.bytes.now) c.loop-test.true c.loop.invariant c.in_err-field.field-0.0 fails)

pub loop-preserved : goal.loop-preserved
loop-preserved c =
    let f = c.in_ok-field.field in
    let read = rw c.deref.ensures.value at c.in_ok-field.ensures in
    rw (c.in_ok-push.ensures.items, map_push field_seen c.loop.fields.items f, map_push (λ g. g.name) c.loop.fields.items f)
    (goes_on (λ names f. names ++ f.name ∷ []) new_field_at (map field_seen c.loop.fields.items) c.args.count c.loop.counter (map (λ f. f.name) c.loop.fields.items) c.loop.rest.now (fields_after [] c.args.count c.args.bytes.now) c.loop-test.true c.loop.invariant (field_seen f) c.in_ok-field.after.now read)
