use Rattle.std.proofs.Common.{◌∙◌, sym, ap, get_or, []}
use Rattle.std.specs.Prelude.{option_map}
use Rattle.std.proofs.lemmas.Option.{slice_get-get_or}
use Rattle.csv.specs.Records.{fields_of}
use Rattle.csv.proofs.RecordFacts.{field-get}
use Rattle.wsm_csv.proofs.CellLemmas.{field_at-slice_get, some_of_map}
use Rattle.wsm_row_watermarks.proofs.row.cell_at.Goals as goal

pub unwrap-requires : goal.unwrap-requires
unwrap-requires c =
    some_of_map (λ s. s.now) c.get.result (get_or (fields_of c.args.cells.now) c.args.place [])
    (c.get.ensures.value ∙ field_at-slice_get (fields_of c.args.cells.now) c.args.place ∙ slice_get-get_or (fields_of c.args.cells.now) c.args.place [] c.requires)

pub returns : goal.returns
returns c = sym (field-get (fields_of c.args.cells.now) c.args.place c.unwrap.result.now (sym c.get.ensures.value ∙ ap (option_map (λ s. s.now)) c.unwrap.ensures))
