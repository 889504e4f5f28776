use Rattle.std.proofs.Common.{◌≡◌, ◌∙◌, ◌++◌, ◌+◌, ◌∷◌, ℕ, List, Ok, length, map, sym, ap, subst}
use Rattle.wsm_csv.specs.EventReader.{event_read}
use Rattle.wsm_record.specs.Event.{Event, event_of}
use Rattle.wsm_record.specs.Schema.{Declared}
use Rattle.wsm_admission.specs.Admission.{counter}
use Rattle.wsm_admission.specs.Clock.{fits_declared}
use Rattle.wsm_semantics.specs.Query.{verdict_on}
use Rattle.wsm_semantics.specs.Relation.{turn_rows}
use Rattle.wsm_semantics.specs.declared.out_row.OutRow.{OutRow}
use Rattle.wsm_semantics.specs.Lines.{Out, events, refusal_lines}
use Rattle.wsm_semantics.specs.Text.{lines_text}
use Rattle.wsm_program.specs.Program.{Program}
use Rattle.wsm_machine.specs.Meaning.{query_of}
use Rattle.wsm_engine.specs.declared.reply.Reply.{Reply}
use Rattle.wsm_engine.specs.Meaning.{reply_to}
use Rattle.wsm_engine.specs.Meaning as engine
use Rattle.wsm.specs.declared.turns.Turns.{Turns}
use Rattle.wsm.specs.Turns.{Fits}
use Rattle.wsm.proofs.RowTurns.{one_more}
use Rattle.wsm_csv.proofs.TurnLines.{joined_lines}
use Rattle.wsm.proofs.turns.Turns.feed.Goals as goal

pub feed_judged-reply-requires : goal.feed_judged-reply-requires
feed_judged-reply-requires c =
    let old = c.args.self.now in
    c.values_fit-values_fit.ensures ∙ c.requires ∙ ap (fits_declared old.engine.program.header.schema) (sym c.event.ensures)

pub returns : goal.returns
returns c = λ p before fits.
    let old = c.args.self.now in
    let e = event_read old.events in
    let past = events before in
    let same : event_of c.event.result.now ≡ e = c.event.ensures in
    let fed = fits.engine in
    let mid = c.tell.new.self in
    let others : mid ≡ record old { engine = c.feed_judged-reply.new.self; lines = mid.lines } = c.tell.ensures.others in
    let next : Fits p (record old { engine = c.feed_judged-reply.new.self }) (Ok e ∷ before) = record {
      engine = record { program = c.feed_judged-reply.ensures.program ∙ fed.program; fits = subst (λ (x : Event). engine.Fits c.feed_judged-reply.new.self (x ∷ past)) same (c.feed_judged-reply.ensures.fits past fed.fits) };
      faults = fits.faults;
    } in
    let told : Fits p mid (Ok e ∷ before) = subst (λ (t : Turns). Fits p t (Ok e ∷ before)) (sym others) (record { engine = next.engine; faults = next.faults }) in
    let declared : c.schema.result.now ≡ p.header.schema = c.schema.ensures ∙ ap (λ (m : Program). m.header.schema) told.engine.program in
    let verdict : c.feed_judged-reply.result.refusal ≡ verdict_on (query_of p) past e = ap (λ (r : Reply). r.refusal) (c.feed_judged-reply.ensures.reply past fed.fits) ∙ ap (λ (x : Event). (reply_to old.engine.program past x).refusal) same ∙ ap (λ (m : Program). (reply_to m past e).refusal) fed.program in
    let rows : c.rows.result.now ≡ turn_rows (query_of p) past e = c.rows.ensures ∙ ap (λ (t : Turns). t.engine.rows) others ∙ c.feed_judged-reply.ensures.rows past fed.fits ∙ ap (λ (x : Event). turn_rows (query_of old.engine.program) past x) same ∙ ap (λ (m : Program). turn_rows (query_of m) past e) fed.program in
    let first = c.in_ok-tell.ensures.lines p (Ok e ∷ before) next p.header.schema
    ∙ ap (λ (n : ℕ). old.lines.items ++ lines_text p.header.schema (refusal_lines n c.feed_judged-reply.result.refusal)) (one_more (length before))
    ∙ ap (λ r. old.lines.items ++ lines_text p.header.schema (refusal_lines (counter (length before + 1)) r)) verdict in
    let second = c.in_ok-rows_text.ensures
    ∙ ap (λ (d : Declared). mid.lines.items ++ lines_text d (map Out c.rows.result.now)) declared
    ∙ ap (λ (rs : List OutRow). mid.lines.items ++ lines_text p.header.schema (map Out rs)) rows in
    record {
      fits = record { engine = told.engine; faults = told.faults };
      lines = joined_lines p.header.schema old.lines.items mid.lines.items c.rows_text.new.out.items (refusal_lines (counter (length before + 1)) (verdict_on (query_of p) past e)) (map Out (turn_rows (query_of p) past e)) first second;
    }
