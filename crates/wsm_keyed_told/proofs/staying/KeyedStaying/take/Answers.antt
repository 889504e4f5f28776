use Rattle.std.proofs.Common.{rules, ◌≡◌, ◌∷◌, ℕ, List, Ok, OnOk, sym, subst}
use Rattle.wsm_record.specs.Event.{event_of}
use Rattle.wsm_keep.specs.declared.keeper.Keeper.{Keeper}
use Rattle.wsm_keep.specs.Holds.{rows_with}
use Rattle.wsm_keep.specs.Keeper as keeper
use Rattle.wsm_keep.proofs.Cuts.{on_ok}
use Rattle.wsm_saved.specs.Events.{EventFits, event_text}
use Rattle.wsm_keyed_told.specs.Staying.{Cuts}
use Rattle.wsm_keyed_told.proofs.staying.KeyedStaying.take.Goals as goal

pub returns : goal.returns
returns c = λ q past cuts told.
    let e = event_of c.args.event.now in
    let rows = rows_with event_text past in
    let has : Cuts q c.self.inside.keeper past = subst (λ (k : Keeper). Cuts q k past) (sym c.self.view_is) cuts in
    let text : c.deref.result.now ≡ event_text e = search rules in
    let back : EventFits e = c.in_ok-save.ensures.fits in
    on_ok c.take.result (λ fits. record { lawful = has.lawful; fits = fits; each = (back, cuts.each) })
    (subst (λ (t : List ℕ). OnOk c.take.result (keeper.Fits q c.take.new.self ((Ok e, t) ∷ rows))) text (c.take.ensures.fits q rows e has.lawful has.fits told))
