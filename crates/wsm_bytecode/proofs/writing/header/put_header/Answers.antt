use Rattle.std.proofs.lemmas.Result.{on_ok_weaker}
use Rattle.wsm_program.specs.View.{header_of}
use Rattle.wsm_program.proofs.Lawful.{header_schema}
use Rattle.wsm_bytecode.proofs.Spelled.{schema_keys, schema_fields, schema_count, header_limited, header_kinds, header_columns, header_added}
use Rattle.wsm_bytecode.proofs.writing.header.put_header.Goals as goal

pub put_names-requires : goal.put_names-requires
put_names-requires c = rw c.keys.ensures (schema_keys c.args.header.now.schema (header_schema (header_of c.args.header.now) c.requires))

pub put_fields-requires-clause-count : goal.put_fields-requires-clause-count
put_fields-requires-clause-count c = schema_count c.fields.result.now c.args.header.now.schema c.fields.ensures (header_schema (header_of c.args.header.now) c.requires)

pub put_fields-requires-clause-lawful : goal.put_fields-requires-clause-lawful
put_fields-requires-clause-lawful c = schema_fields c.fields.result.now c.args.header.now.schema c.fields.ensures (header_schema (header_of c.args.header.now) c.requires)

pub put_times-requires : goal.put_times-requires
put_times-requires c = header_limited (header_of c.args.header.now) c.requires

pub put_kinds-requires : goal.put_kinds-requires
put_kinds-requires c = rw c.deref.ensures.value (header_kinds (header_of c.args.header.now) c.requires)

pub put_columns-requires : goal.put_columns-requires
put_columns-requires c = rw c.deref-2.ensures.value (header_columns (header_of c.args.header.now) c.requires)

pub returns : goal.returns
returns c =
    let keys = rw c.keys.ensures at c.in_ok-put_names.ensures in
    let fields = rw c.fields.ensures at c.in_ok-put_fields.ensures in
    let kinds = rw c.deref.ensures.value at c.in_ok-put_kinds.ensures in
    let columns = rw c.deref-2.ensures.value at c.in_ok-put_columns.ensures in
    on_ok_weaker c.put_budget.result
    (λ last. header_added (header_of c.args.header.now) c.args.out.now.items c.put_names.new.out.items c.put_fields.new.out.items c.put_times.new.out.items c.put_settings.new.out.items c.put_kinds.new.out.items c.put_columns.new.out.items c.put_budget.new.out.items
    keys fields c.in_ok-put_times.ensures c.in_ok-put_settings.ensures kinds columns last)
    c.put_budget.ensures
