use Rattle.std.proofs.Common.{◌∙◌, ap, sym}
use Rattle.std.specs.Prelude.{option_and_then}
use Rattle.csv.specs.Records.{fields_of}
use Rattle.wsm_csv.specs.Tags.{tag_of}
use Rattle.wsm_csv.proofs.CellLemmas.{row_tag-field_at}
use Rattle.wsm_csv.proofs.row.read_tag.Goals as goal

pub returns-in_err-get : goal.returns-in_err-get
returns-in_err-get c =
    c.from_residual.ensures ∙ sym (row_tag-field_at (fields_of c.args.row.now) ∙ ap (option_and_then tag_of) (sym c.in_err-get.ensures.value))

pub returns : goal.returns
returns c =
    c.cell_tag.ensures ∙ sym (row_tag-field_at (fields_of c.args.row.now) ∙ ap (option_and_then tag_of) (sym c.in_ok-get.ensures.value))
