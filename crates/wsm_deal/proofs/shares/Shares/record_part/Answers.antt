use Rattle.std.proofs.Common.{◌≡◌, ◌∙◌, Some, None, sym, ap}
use Rattle.std.specs.Prelude.{option_map, slice_get}
use Rattle.csv.specs.Records.{fields_of}
use Rattle.wsm_csv.proofs.CellLemmas.{field_at-slice_get}
use Rattle.wsm_deal.specs.Deal.{record_part}
use Rattle.wsm_deal.proofs.shares.Shares.record_part.Goals as goal

pub returns-in-Some : goal.returns-in-Some
returns-in-Some c =
    let f = fields_of c.args.row.now in
    let cell : slice_get f 1 ≡ Some c.in-Some.key.now = sym (field_at-slice_get f 1) ∙ sym c.get.ensures.value ∙ ap (option_map (λ s. s.now)) c.in-Some.is in
    c.part_of.ensures ∙ ap (record_part c.args.self.now) (sym cell)

pub returns-in-None : goal.returns-in-None
returns-in-None c =
    let f = fields_of c.args.row.now in
    let cell : slice_get f 1 ≡ None = sym (field_at-slice_get f 1) ∙ sym c.get.ensures.value ∙ ap (option_map (λ s. s.now)) c.in-None.is in
    ap (record_part c.args.self.now) (sym cell)
