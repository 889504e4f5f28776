use Rattle.std.proofs.Common.{◌≡◌, ◌∙◌, [], ◌∷◌, Option, None, Some, refl, sym, ap, subst}
use Rattle.std.proofs.lemmas.Result.{on_ok_weaker}
use Rattle.std.specs.Prelude.{OnOk}
use Rattle.wsm_record.specs.Event.{Event, event_of}
use Rattle.wsm_record.specs.Schema.{Declared}
use Rattle.wsm_watermarks.specs.declared.stamp.Stamp.{Stamp}
use Rattle.wsm_program.specs.Program.{Program}
use Rattle.wsm_lines.specs.Reader.{clock_read, event_read}
use Rattle.wsm_turns.specs.Clocks.{named_in}
use Rattle.wsm_turns.specs.Heard.{left_by}
use Rattle.wsm_turns.specs.Turns.{stamp_of, turn_by, watermark}
use Rattle.wsm_turns.specs.Voices.{voiced_at}
use Rattle.wsm_turns.proofs.Remembering.{mark_rises, remembers_on}
use Rattle.wsm_turns.proofs.Stamps.{clock_known, time_small}
use Rattle.wsm_key_names.specs.Reading.{by_names}
use Rattle.wsm_keyed_told.specs.Tells.{Tells}
use Rattle.wsm_log_text.proofs.Counts.{no_more}
use Rattle.wsm_keyed_intake.specs.KeyedLog.{setting_by}
use Rattle.wsm_keyed_intake.specs.Turns.{Speaks, spoken_read}
use Rattle.wsm_keyed_intake.proofs.Stamps.{stamp_more}
use Rattle.wsm_keyed_intake.proofs.Telling.{told_grows, told_text}
use Rattle.wsm_keyed_intake.proofs.intake.KeyedIntake.serve.Goals as goal

pub returns-in-None : goal.returns-in-None
returns-in-None c = λ clocks p all k voices holds knows few.
    let old = c.args.self.now in
    let r = old.reader in
    let w = setting_by clocks p all in
    let e = event_read r.reader in
    let d = p.header.schema in
    let names = old.told.names in
    let schema : c.schema.result.now ≡ d = c.schema.ensures ∙ ap (λ (m : Program). m.header.schema) holds.told.parts.program in
    let is : stamp_of (by_names all d) e ≡ None =
    sym (stamp_more d names all holds.grows e c.requires)
    ∙ ap (stamp_of (by_names names d)) (sym c.event.ensures)
    ∙ sym (c.stamp_among.ensures (by_names names d) (sym c.len-names.ensures.len) (ap (λ (y : Declared). y.fields) (sym schema)))
    ∙ c.in-None.is in
    on_ok_weaker c.take.result (λ took.
    let tells = subst (λ (y : Event). Tells p old.told c.take.new.self k.fed (record { number = old.taken; event = y } ∷ [])) c.event-in-None.ensures (took p k.fed holds.told) in
    subst (λ (o : Option Stamp).
    let v = voiced_at o (named_in clocks) voices (clock_read r.reader) in
    let x = spoken_read r v.voice in
    Speaks clocks p all old (record old { told = c.take.new.self }) k v (turn_by w k old.taken o x) (left_by o x.identifier k.memory)) (sym is) (record {
      goes = record {
        holds = record {
          told = record { lawful = tells.serves.lawful; panes = tells.serves.panes; parts = tells.serves.parts; staying = tells.serves.staying };
          grows = told_grows p old.told c.take.new.self k.fed (record { number = old.taken; event = e } ∷ []) all holds.grows tells;
          waiting = holds.waiting;
          remembers = remembers_on w (watermark w k.fed) (watermark w (e ∷ k.fed)) old.identifiers k.memory (mark_rises w k.fed (record { number = old.taken; event = e } ∷ [])) holds.remembers;
        };
        text = told_text p old.told c.take.new.self k.fed (record { number = old.taken; event = e } ∷ []) all holds.grows tells;
        names = tells.names;
        doubles = no_more old.doubles;
        others = refl;
      };
      voices = knows;
      silent = no_more old.silent;
    })) c.take.ensures

pub serve_stamped-requires : goal.serve_stamped-requires
serve_stamped-requires c =
    let d = c.schema.result.now in
    let names = c.args.self.now.told.names in
    time_small (by_names names d) (event_of c.event.result.now) c.in-Some.stamp (sym (c.stamp_among.ensures (by_names names d) (sym c.len-names.ensures.len) refl) ∙ c.in-Some.is)

pub returns-in-Some : goal.returns-in-Some
returns-in-Some c = λ clocks p all k voices holds knows few.
    let old = c.args.self.now in
    let r = old.reader in
    let w = setting_by clocks p all in
    let e = event_read r.reader in
    let d = p.header.schema in
    let names = old.told.names in
    let schema : c.schema.result.now ≡ d = c.schema.ensures ∙ ap (λ (m : Program). m.header.schema) holds.told.parts.program in
    let is : stamp_of (by_names all d) e ≡ Some c.in-Some.stamp =
    sym (stamp_more d names all holds.grows e c.requires)
    ∙ ap (stamp_of (by_names names d)) (sym c.event.ensures)
    ∙ sym (c.stamp_among.ensures (by_names names d) (sym c.len-names.ensures.len) (ap (λ (y : Declared). y.fields) (sym schema)))
    ∙ c.in-Some.is in
    subst (λ (o : Option Stamp).
    let v = voiced_at o (named_in clocks) voices (clock_read r.reader) in
    let x = spoken_read r v.voice in
    OnOk c.serve_stamped.result (Speaks clocks p all old c.serve_stamped.new.self k v (turn_by w k old.taken o x) (left_by o x.identifier k.memory))) (sym is)
    (c.serve_stamped.ensures clocks p all k voices holds knows few (clock_known (by_names all d) e c.in-Some.stamp is))
