use Rattle.std.proofs.Common.{◌≡◌, [], None, ap, length, refl, replicate, sym, ◌∙◌}
use Rattle.std.proofs.lemmas.List.{length-replicate}
use Rattle.wsm_list.specs.Stored.{shown}
use Rattle.wsm_list.proofs.Listed.{none_listed}
use Rattle.wsm_slots.proofs.Entry.{free_replicate}
use Rattle.wsm_list.proofs.Tables.{map_of, map_of-nil}
use Rattle.wsm_list.proofs.list.ListTable.open.Goals as goal

pub invariant_of-result : goal.invariant_of-result
invariant_of-result c =
    let n = c.args.room in
    let new : c.in_ok-open.field-0.slots ≡ replicate n None = ap (λ s. s.slots) c.in_ok-open.ensures in
    let row : c.in_ok-open-2.field-0.row ≡ [] = c.in_ok-open-2.ensures.empty in
    record {
      stored = rw row (record { there = tt; sorted = refl });
      listed = rw new (none_listed (replicate n None) (free_replicate n) c.in_ok-open-2.field-0.row);
      room = c.in_ok-open-2.ensures.room ∙ sym (ap length new ∙ length-replicate n None);
    }

pub returns : goal.returns
returns c =
    let slots = c.in_ok-open.ensures in
    let row = c.in_ok-open-2.ensures.empty in
    let room = c.in_ok-open-2.ensures.room in
    (λ i. record { panes = map_of (shown (slots i).slots (row i)); room = room i; widths = (slots i).widths }) ∙ λ i. record { panes = map_of-nil i; room = c.args.room; widths = c.args.widths }
