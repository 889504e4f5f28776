use Rattle.std.proofs.Common.{◌≡◌, ◌∙◌, List, Some, ap, sym}
use Rattle.std.specs.Prelude.{option_map}
use Rattle.wsm_record.specs.declared.event.Value.{Value}
use Rattle.wsm_windows.specs.declared.place.Place.{Place}
use Rattle.wsm_semantics.specs.Summaries.{Pane}
use Rattle.wsm_list.specs.Stored.{shown}
use Rattle.wsm_list.proofs.Guessed.{guessed}
use Rattle.wsm_list.proofs.StoredEdits.{own_entry}
use Rattle.wsm_list.proofs.Tables.{get_is}
use Rattle.wsm_list.proofs.list.ListTable.unshown.Goals as goal

pub returns-then-is_at : goal.returns-then-is_at
returns-then-is_at c =
    let os = c.self.inside.slots.slots in let row = c.self.inside.row.row in
    let of = guessed os row c.self.invariant.stored c.self.invariant.listed c.args.place c.args.guess (sym c.is_at.ensures ∙ c.if-is_at.true) in
    let own = own_entry os row c.self.invariant.stored of.number c.args.guess of.here c.args.place of.is in
    let pane : Some c.pane.result ≡ Some own.0 = sym c.pane.ensures.same ∙ ap (option_map (λ (e : Place × Pane (List Value)). e.1)) own.1.0 in
    rw (← c.self.view_is)
    (ap Some c.unshown.ensures
    ∙ ap (option_map (λ (h : Pane (List Value)). h.unshown)) (pane ∙ sym (get_is (shown os row) c.self.invariant.stored.sorted c.args.place ∙ own.1.1)))
