use Rattle.std.proofs.Common.{◌≡◌, ◌∙◌, Some, None, sym, ap, drop}
use Rattle.std.specs.Prelude.{option_map, slice_get}
use Rattle.csv.specs.Records.{fields_of}
use Rattle.wsm_csv.proofs.CellLemmas.{field_at-slice_get}
use Rattle.wsm_key_names.specs.Reading.{key_cell}
use Rattle.wsm_key_names.proofs.NameLines.{first_cell, no_first_cell}
use Rattle.wsm_key_names.proofs.events.key_of.Goals as goal

pub returns-in-Some : goal.returns-in-Some
returns-in-Some c =
    let f = fields_of c.args.row.now in
    let cell : slice_get f 0 ≡ Some c.in-Some.tag.now = sym (field_at-slice_get f 0) ∙ sym c.get.ensures.value ∙ ap (option_map (λ s. s.now)) c.in-Some.is in
    let row = first_cell f c.in-Some.tag.now cell in
    c.key_behind.ensures (drop 1 f) row ∙ ap key_cell (sym row)

pub returns-in-None : goal.returns-in-None
returns-in-None c =
    let f = fields_of c.args.row.now in
    let cell : slice_get f 0 ≡ None = sym (field_at-slice_get f 0) ∙ sym c.get.ensures.value ∙ ap (option_map (λ s. s.now)) c.in-None.is in
    ap key_cell (sym (no_first_cell f cell))
