use Rattle.std.proofs.Common.{◌∙◌, ap}
use Rattle.csv.specs.Records.{fields_of}
use Rattle.wsm_csv.proofs.CellLemmas.{field_at-slice_get}
use Rattle.wsm_kept.specs.Head.{is_tag}
use Rattle.wsm_kept.proofs.head.begins_as_head.Goals as goal

pub returns : goal.returns
returns c = c.is_tag.ensures ∙ ap is_tag c.get.ensures.value ∙ ap is_tag (field_at-slice_get (fields_of c.args.row.now) 0)
