use Rattle.std.proofs.Common.{◌≡◌, List, Some, length, set, ap, inl, inr, sym, ◌∙◌}
use Rattle.std.specs.Option.{is_some}
use Rattle.std.specs.Prelude.{not}
use Rattle.wsm_record.specs.declared.event.Value.{Value}
use Rattle.wsm_windows.specs.declared.place.Place.{Place}
use Rattle.wsm_semantics.specs.Summaries.{Pane}
use Rattle.wsm_ring.specs.Ring.{held}
use Rattle.wsm_slots.specs.Slots.{slot_at}
use Rattle.wsm_ring.proofs.Own.{count_more, is_some_placed}
use Rattle.wsm_ring.proofs.filling.fill.Goals as goal
use Rattle.wsm_ring.proofs.filling.fill.Goals.{then-is_none, else-is_none}

pub returns-clause-len : goal.returns-clause-len
returns-clause-len c =
    let os = c.args.slots.now.slots in
    let e : Place × Pane (List Value) = (c.args.place, c.args.pane.now) in
    let new : c.put.new.self.slots ≡ set os c.args.slot (Some e) = ap (λ s. s.slots) c.put.ensures ∙ ap (λ (x : Pane (List Value)). set os c.args.slot (Some (c.args.place, x))) c.view.ensures in
    let there = sym (is_some_placed (slot_at os c.args.slot)) ∙ ap is_some (sym c.place.ensures) ∙ c.is_none.ensures in
    ap (λ ns. length (held ns)) new ∙ count_more os c.args.slot e c.if-is_none.more c.requires.slot (elim (c.if-is_none.branch) [
      | then-is_none w ↦ inl (there ∙ ap not w.if-is_none.true, w.more-is)
      | else-is_none w ↦ inr (there ∙ ap not w.if-is_none.false, w.more-is)
    ])
