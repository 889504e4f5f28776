use Rattle.std.proofs.Common.{◌≡◌, ◌∙◌, [], ◌∷◌, None, Some, sym, ap, subst}
use Rattle.std.proofs.lemmas.Result.{on_ok_weaker}
use Rattle.wsm_record.specs.Event.{Event, event_of}
use Rattle.wsm_record.specs.Schema.{Declared}
use Rattle.wsm_turns.specs.Turns.{stamp_of}
use Rattle.wsm_turns.proofs.Stamps.{time_small}
use Rattle.wsm_row_watermarks.specs.Fits.{spoken_read}
use Rattle.wsm_row_watermarks.specs.Handed.{Tells}
use Rattle.wsm_row_watermarks.proofs.Turning.{record_goes}
use Rattle.wsm_row_watermarks.proofs.turns.RowTurns.serve_record.Goals as goal

pub returns-in-None : goal.returns-in-None
returns-in-None c = λ w s line begins.
    let old = c.args.self.now in
    let x = spoken_read old in
    let is : stamp_of w.declared x.event ≡ None = ap (λ (y : Declared). stamp_of y x.event) (sym (c.schema.ensures ∙ begins.holds.told.declared)) ∙ ap (stamp_of c.schema.result.now) (sym c.event.ensures) ∙ sym c.stamp_judged.ensures ∙ c.in-None.is in
    on_ok_weaker c.take.result (λ took.
    record_goes w s line old begins c.take.new.self x is
    (subst (λ (e : Event). Tells w old.handed c.take.new.self s.kept.fed (record { number = old.counts.lines; event = e } ∷ [])) c.event-in-None.ensures (took w s.kept.fed begins.holds.told))) c.take.ensures

pub serve_stamped-requires : goal.serve_stamped-requires
serve_stamped-requires c = time_small c.schema.result.now (event_of c.event.result.now) c.in-Some.stamp (sym c.stamp_judged.ensures ∙ c.in-Some.is)

pub returns-in-Some : goal.returns-in-Some
returns-in-Some c = λ w s line begins.
    let old = c.args.self.now in
    let x = spoken_read old in
    let is : stamp_of w.declared x.event ≡ Some c.in-Some.stamp = ap (λ (y : Declared). stamp_of y x.event) (sym (c.schema.ensures ∙ begins.holds.told.declared)) ∙ ap (stamp_of c.schema.result.now) (sym c.event.ensures) ∙ sym c.stamp_judged.ensures ∙ c.in-Some.is in
    c.serve_stamped.ensures w s line is begins
