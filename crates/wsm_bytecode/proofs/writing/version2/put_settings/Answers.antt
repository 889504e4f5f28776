use Rattle.std.proofs.lemmas.Result.{on_ok_weaker}
use Rattle.wsm_program.specs.View.{header_of}
use Rattle.wsm_program.proofs.Lawful.{header_schema}
use Rattle.wsm_bytecode.proofs.Spelled.{schema_sources, source_bytes, settings_added}
use Rattle.wsm_bytecode.proofs.writing.version2.put_settings.Goals as goal

pub put_sources-requires-clause-count : goal.put_sources-requires-clause-count
put_sources-requires-clause-count c = rw c.sources.ensures (source_bytes c.args.header.now.schema (header_schema (header_of c.args.header.now) c.requires))

pub put_sources-requires-clause-lawful : goal.put_sources-requires-clause-lawful
put_sources-requires-clause-lawful c = rw c.sources.ensures (schema_sources c.args.header.now.schema (header_schema (header_of c.args.header.now) c.requires))

pub returns : goal.returns
returns c =
    let sources = rw c.sources.ensures at c.in_ok-put_sources.ensures in
    let mode = rw c.mode_tag.ensures at c.in_ok-put_u8.ensures in
    on_ok_weaker c.put_u8-2.result
    (λ last. settings_added (header_of c.args.header.now) c.requires c.args.out.now.items c.put_window_flag.new.out.items c.put_sources.new.out.items c.put_shape.new.out.items c.put_u8.new.out.items c.put_two.new.out.items c.put_u8-2.new.out.items
    c.in_ok-put_window_flag.ensures sources c.in_ok-put_shape.ensures mode c.in_ok-put_two.ensures (rw c.form_tag.ensures at last))
    c.put_u8-2.ensures
