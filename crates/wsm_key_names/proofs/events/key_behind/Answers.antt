use Rattle.std.proofs.Common.{◌∙◌, List, ℕ, ap, sym}
use Rattle.std.specs.Prelude.{slice_get}
use Rattle.csv.specs.Records.{fields_of}
use Rattle.wsm_csv.proofs.CellLemmas.{field_at-slice_get}
use Rattle.wsm_key_names.proofs.ByNames.{key_first, key_none}
use Rattle.wsm_key_names.proofs.events.key_behind.Goals as goal

pub returns-then-is_record_tag : goal.returns-then-is_record_tag
returns-then-is_record_tag c = λ cells row.
    let tag = c.args.tag.now in
    c.get.ensures.value
    ∙ field_at-slice_get (fields_of c.args.row.now) 1
    ∙ ap (λ (f : List (List ℕ)). slice_get f 1) row
    ∙ key_first tag cells (sym c.is_record_tag.ensures ∙ c.if-is_record_tag.true)

pub returns-else-is_record_tag : goal.returns-else-is_record_tag
returns-else-is_record_tag c = λ cells row. key_none c.args.tag.now cells (sym c.is_record_tag.ensures ∙ c.if-is_record_tag.false)
