use Rattle.std.proofs.Common.{◌∙◌, sym}
use Rattle.wsm_record.proofs.DeclaredFields.{too_many_names}
use Rattle.wsm_record.proofs.schema.exceed.Goals as goal

pub returns : goal.returns
returns c =
    c.has_wide_field.ensures
    ∙ too_many_names c.args.keys.now c.args.fields.now c.args.sources.now c.if-keys-gt-MAX_NAMES.false c.if-fields-gt-MAX_FIELDS.false (sym c.is_source_count.ensures ∙ c.if-not-is_source_count.false)
