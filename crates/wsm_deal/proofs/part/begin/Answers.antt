use Rattle.std.proofs.Common.{◌≡◌, ◌∙◌, ◌++◌, [], List, ℕ, true, false, ap, sym, refl, append-nil}
use Rattle.std.specs.Prelude.{slice_get}
use Rattle.csv.specs.Records.{fields_of}
use Rattle.wsm_csv.proofs.CellLemmas.{field_at-slice_get}
use Rattle.wsm_deal.specs.PartText.{is_marked, mark_before, mark_bytes}
use Rattle.wsm_deal.proofs.part.begin.Goals as goal

pub returns-in_ok-extend_from_slice : goal.returns-in_ok-extend_from_slice
returns-in_ok-extend_from_slice c =
    let f = fields_of c.args.row.now in
    let is : is_marked (slice_get f 0) ≡ true =
    ap is_marked (sym (field_at-slice_get f 0)) ∙ ap is_marked (sym c.get.ensures.value) ∙ sym c.begins_with_mark.ensures ∙ c.if-begins_with_mark.true in
    let before : mark_before f ≡ mark_bytes = rw is refl in
    c.in_ok-extend_from_slice.ensures.items ∙ ap (λ (t : List ℕ). c.args.text.now.items ++ t) (sym before)

pub returns-else-begins_with_mark : goal.returns-else-begins_with_mark
returns-else-begins_with_mark c =
    let f = fields_of c.args.row.now in
    let not_is : is_marked (slice_get f 0) ≡ false =
    ap is_marked (sym (field_at-slice_get f 0)) ∙ ap is_marked (sym c.get.ensures.value) ∙ sym c.begins_with_mark.ensures ∙ c.if-begins_with_mark.false in
    let before : mark_before f ≡ [] = rw not_is refl in
    sym (ap (λ (t : List ℕ). c.args.text.now.items ++ t) before ∙ append-nil c.args.text.now.items)
