use Rattle.std.proofs.Common.{rules, ◌≡◌, ◌∷◌, ℕ, List, Ok, OnOk, sym, subst}
use Rattle.wsm_record.specs.Event.{event_of}
use Rattle.wsm_keep.specs.Holds.{rows_with}
use Rattle.wsm_keep.proofs.Cuts.{on_ok}
use Rattle.wsm_cut.specs.Cutter as cutter
use Rattle.wsm_cut.specs.declared.cutter.Cutter.{Cutter}
use Rattle.wsm_saved.specs.Events.{EventFits, event_text}
use Rattle.wsm_intake.specs.Staying.{Cuts}
use Rattle.wsm_intake.proofs.staying.Staying.take.Goals as goal

pub returns : goal.returns
returns c = λ p past cuts told.
    let e = event_of c.args.event.now in
    let rows = rows_with event_text past in
    let has : Cuts p c.self.inside.cutter past = subst (λ (k : Cutter). Cuts p k past) (sym c.self.view_is) cuts in
    let text : c.deref.result.now ≡ event_text e = search rules in
    let back : EventFits e = c.in_ok-save.ensures.fits in
    on_ok c.take.result (λ fits. record { fits = fits; each = (back, cuts.each) })
    (subst (λ (t : List ℕ). OnOk c.take.result (cutter.Fits p c.take.new.self ((Ok e, t) ∷ rows))) text (c.take.ensures.fits p rows e has.fits told))
