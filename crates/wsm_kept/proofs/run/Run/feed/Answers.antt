use Rattle.std.proofs.Common.{◌≡◌, ◌∙◌, ◌+◌, ◌∷◌, ℕ, List, SFits, w64, to_z-of_z, length, sym, ap, subst}
use Rattle.wsm_record.specs.Event.{Event, event_of}
use Rattle.wsm_admission.specs.Admission.{counter}
use Rattle.wsm_admission.specs.Clock.{fits_declared}
use Rattle.wsm_admission.specs.declared.verdict.Refusal.{Refusal}
use Rattle.std.specs.Prelude.{Option}
use Rattle.wsm_semantics.specs.Query.{mark, verdict_on}
use Rattle.wsm_semantics.specs.Relation.{turn_rows}
use Rattle.wsm_semantics.specs.Lines.{events, refusal_lines}
use Rattle.wsm_program.specs.Program.{Program}
use Rattle.wsm_machine.specs.Meaning.{query_of}
use Rattle.wsm_engine.specs.State.{State}
use Rattle.wsm_engine.specs.declared.reply.Reply.{Reply}
use Rattle.wsm_engine.specs.Meaning.{reply_to}
use Rattle.wsm_engine.specs.Meaning as engine
use Rattle.wsm_csv.specs.EventReader.{event_read}
use Rattle.wsm_keep.specs.Holds.{read}
use Rattle.wsm_keep.specs.Staying.{events_in}
use Rattle.wsm_keep.specs.Keeper.{IsTold}
use Rattle.wsm_kept.specs.declared.run.Run.{Run}
use Rattle.wsm_kept.specs.Run.{EngineFits}
use Rattle.wsm_kept.proofs.Counting.{event_counts}
use Rattle.wsm_kept.proofs.run.Run.feed.Goals as goal

pub feed_judged-reply-requires : goal.feed_judged-reply-requires
feed_judged-reply-requires c =
    let old = c.args.self.now in
    c.values_fit-values_fit.ensures ∙ c.requires ∙ ap (fits_declared old.engine.program.header.schema) (sym c.event-event.ensures)

pub returns-clause-fits : goal.returns-clause-fits
returns-clause-fits c = λ p before fits.
    let old = c.args.self.now in
    let e = event_read old.events in
    let past = events before in
    let same : event_of c.event-event.result.now ≡ e = c.event-event.ensures in
    let fed = fits.engine in
    let next : EngineFits p c.feed_judged-reply.new.self (e ∷ past) = record {
      program = c.feed_judged-reply.ensures.program ∙ fed.program;
      fits = subst (λ (x : Event). engine.Fits c.feed_judged-reply.new.self (x ∷ past)) same (c.feed_judged-reply.ensures.fits past fed.fits);
    } in
    let others = c.count.ensures.others in
    let verdict : c.feed_judged-reply.result.refusal ≡ verdict_on (query_of p) past e = ap (λ (r : Reply). r.refusal) (c.feed_judged-reply.ensures.reply past fed.fits) ∙ ap (λ (x : Event). (reply_to old.engine.program past x).refusal) same ∙ ap (λ (m : Program). (reply_to m past e).refusal) fed.program in
    let rows = c.rows.ensures ∙ c.feed_judged-reply.ensures.rows past fed.fits ∙ ap (λ (x : Event). turn_rows (query_of old.engine.program) past x) same ∙ ap (λ (m : Program). turn_rows (query_of m) past e) fed.program in
    record {
      engine = subst (λ (s : State). EngineFits p s (e ∷ past)) (sym (ap (λ (r : Run). r.engine) others)) next;
      counts = event_counts (query_of p) before e old.counts c.count.new.self.counts c.lines_of.result (length c.rows.result.now) fits.counts
          (c.lines_of.ensures ∙ ap (λ (v : Option Refusal). length (refusal_lines 0 v)) verdict)
          (ap length rows)
          c.count.ensures.rows
          (c.count.ensures.lines ∙ ap (λ (n : ℕ). counter (old.counts.lines + n)) c.saturating_add.ensures)
          (c.count.ensures.admitted p (e ∷ past) next);
    }

pub returns-clause-told : goal.returns-clause-told
returns-clause-told c = λ p before fits.
    let old = c.args.self.now in
    let new = c.feed_judged-reply.new.self in
    let e : Event = event_of c.event-event.result.now in
    let past : List Event = events_in read before in
    let fed = fits.engine in
    let first : SFits w64 c.mark-before.result = record { sfits = c.mark-before.type_inv } in
    let last : SFits w64 c.mark-mark.result = record { sfits = c.mark-mark.type_inv } in
    let is : new.program ≡ p = c.feed_judged-reply.ensures.program ∙ fed.program in
    let replied : c.feed_judged-reply.result ≡ reply_to p past e = c.feed_judged-reply.ensures.reply past fed.fits ∙ ap (λ (m : Program). reply_to m past e) fed.program in
    let from = to_z-of_z first ∙ c.mark-before.ensures past fed.fits ∙ ap (λ (m : Program). mark (query_of m) past) fed.program in
    let to = to_z-of_z last ∙ c.mark-mark.ensures (e ∷ past) (c.feed_judged-reply.ensures.fits past fed.fits) ∙ ap (λ (m : Program). mark (query_of m) (e ∷ past)) is in
    subst (λ (x : Event). IsTold (query_of p) before x c.judge_event-judged.result) c.event-event.ensures (c.judge_event-judged.ensures p before replied from to)

pub returns-clause-rows : goal.returns-clause-rows
returns-clause-rows c = λ p before fits.
    let old = c.args.self.now in
    let e = event_read old.events in
    let past = events before in
    let fed = fits.engine in
    ap (λ (r : Run). r.engine.rows) c.count.ensures.others
    ∙ c.feed_judged-reply.ensures.rows past fed.fits
    ∙ ap (λ (x : Event). turn_rows (query_of old.engine.program) past x) c.event-event.ensures
    ∙ ap (λ (m : Program). turn_rows (query_of m) past e) fed.program
