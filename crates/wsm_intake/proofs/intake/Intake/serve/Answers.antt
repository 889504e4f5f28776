use Rattle.std.proofs.Common.{◌≡◌, ◌∙◌, [], ◌∷◌, Option, None, Some, refl, sym, ap, subst}
use Rattle.std.proofs.lemmas.Result.{on_ok_weaker}
use Rattle.std.specs.Prelude.{OnOk}
use Rattle.wsm_record.specs.Event.{Event, event_of}
use Rattle.wsm_record.specs.Schema.{Declared}
use Rattle.wsm_watermarks.specs.declared.stamp.Stamp.{Stamp}
use Rattle.wsm_program.specs.Program.{Program}
use Rattle.wsm_lines.specs.Reader.{clock_read, event_read}
use Rattle.wsm_turns.specs.Clocks.{named_in}
use Rattle.wsm_turns.specs.Heard.{left_by}
use Rattle.wsm_turns.specs.Turns.{stamp_of, turn_by, watermark}
use Rattle.wsm_turns.specs.Voices.{voiced_at}
use Rattle.wsm_turns.proofs.Remembering.{mark_rises, remembers_on}
use Rattle.wsm_turns.proofs.Stamps.{clock_known, time_small}
use Rattle.wsm_intake.specs.Tells.{Tells}
use Rattle.wsm_intake.specs.Turns.{Speaks, setting_by, spoken_read}
use Rattle.wsm_log_text.proofs.Counts.{no_more}
use Rattle.wsm_intake.proofs.intake.Intake.serve.Goals as goal

pub returns-in-None : goal.returns-in-None
returns-in-None c = λ clocks p k names holds knows few.
    let old = c.args.self.now in
    let r = old.reader in
    let w = setting_by clocks p in
    let e = event_read r in
    let schema : c.schema.result.now ≡ p.header.schema = c.schema.ensures ∙ ap (λ (m : Program). m.header.schema) holds.told.program in
    let is : stamp_of p.header.schema e ≡ None = ap (λ (y : Declared). stamp_of y e) (sym schema) ∙ ap (stamp_of c.schema.result.now) (sym c.event.ensures) ∙ sym c.stamp_of.ensures ∙ c.in-None.is in
    on_ok_weaker c.take.result (λ took.
    let tells = subst (λ (y : Event). Tells p old.told c.take.new.self k.fed (record { number = old.taken; event = y } ∷ [])) c.event-in-None.ensures (took p k.fed holds.told) in
    subst (λ (o : Option Stamp).
    let v = voiced_at o (named_in clocks) names (clock_read r) in
    let x = spoken_read r v.voice in
    Speaks clocks p old (record old { told = c.take.new.self }) k v (turn_by w k old.taken o x) (left_by o x.identifier k.memory)) (sym is) (record {
      goes = record {
        holds = record { told = record { program = tells.serves.program; fits = tells.serves.fits; staying = tells.serves.staying }; waiting = holds.waiting; remembers = remembers_on w (watermark w k.fed) (watermark w (e ∷ k.fed)) old.identifiers k.memory (mark_rises w k.fed (record { number = old.taken; event = e } ∷ [])) holds.remembers };
        text = tells.text;
        doubles = no_more old.doubles;
        others = refl;
      };
      names = knows;
      silent = no_more old.silent;
    })) c.take.ensures

pub serve_stamped-requires : goal.serve_stamped-requires
serve_stamped-requires c = time_small c.schema.result.now (event_of c.event.result.now) c.in-Some.stamp (sym c.stamp_of.ensures ∙ c.in-Some.is)

pub returns-in-Some : goal.returns-in-Some
returns-in-Some c = λ clocks p k names holds knows few.
    let old = c.args.self.now in
    let r = old.reader in
    let w = setting_by clocks p in
    let e = event_read r in
    let schema : c.schema.result.now ≡ p.header.schema = c.schema.ensures ∙ ap (λ (m : Program). m.header.schema) holds.told.program in
    let is : stamp_of p.header.schema e ≡ Some c.in-Some.stamp = ap (λ (y : Declared). stamp_of y e) (sym schema) ∙ ap (stamp_of c.schema.result.now) (sym c.event.ensures) ∙ sym c.stamp_of.ensures ∙ c.in-Some.is in
    subst (λ (o : Option Stamp).
    let v = voiced_at o (named_in clocks) names (clock_read r) in
    let x = spoken_read r v.voice in
    OnOk c.serve_stamped.result (Speaks clocks p old c.serve_stamped.new.self k v (turn_by w k old.taken o x) (left_by o x.identifier k.memory))) (sym is)
    (c.serve_stamped.ensures clocks p k names holds knows few (clock_known p.header.schema e c.in-Some.stamp is))
