use Rattle.std.proofs.Common.{◌≡◌, ◌∙◌, ◌∷◌, List, SFits, w64, to_z-of_z, sym, ap}
use Rattle.wsm_record.specs.Event.{Event, event_of}
use Rattle.wsm_semantics.specs.Query.{mark}
use Rattle.wsm_semantics.specs.Relation.{turn_rows}
use Rattle.wsm_program.specs.Program.{Program}
use Rattle.wsm_machine.specs.Meaning.{query_of}
use Rattle.wsm_engine.specs.Meaning.{reply_to}
use Rattle.wsm_keep.specs.Holds.{read, rows_with}
use Rattle.wsm_keep.specs.Staying.{events_in}
use Rattle.wsm_keep.specs.Keeper.{IsTold}
use Rattle.wsm_keep.proofs.OfEvents.{events_with}
use Rattle.wsm_saved.specs.Events.{event_text}
use Rattle.wsm_intake.proofs.staying.Staying.feed.Goals as goal

pub returns-clause-fed : goal.returns-clause-fed
returns-clause-fed c = λ p past is fits.
    let e = event_of c.args.event.now in
    record {
      program = c.feed-reply.ensures.program ∙ is;
      fits = c.feed-reply.ensures.fits past fits;
      is = c.feed-reply.ensures.reply past fits ∙ ap (λ (m : Program). reply_to m past e) is;
      rows = c.feed-reply.ensures.rows past fits ∙ ap (λ (m : Program). turn_rows (query_of m) past e) is;
    }

pub returns-clause-cuts : goal.returns-clause-cuts
returns-clause-cuts c = λ p past is fits cuts.
    let e = event_of c.args.event.now in
    let rows = rows_with event_text past in
    let back : past ≡ events_in read rows = sym (events_with event_text past) in
    let first : SFits w64 c.mark-before.result = record { sfits = c.mark-before.type_inv } in
    let last : SFits w64 c.mark.result = record { sfits = c.mark.type_inv } in
    let now = c.feed-reply.ensures.program ∙ is in
    let replied : c.feed-reply.result ≡ reply_to p (events_in read rows) e =
    c.feed-reply.ensures.reply past fits ∙ ap (λ (m : Program). reply_to m past e) is ∙ ap (λ (es : List Event). reply_to p es e) back in
    let from = to_z-of_z first ∙ c.mark-before.ensures past fits ∙ ap (λ (m : Program). mark (query_of m) past) is ∙ ap (mark (query_of p)) back in
    let to =
    to_z-of_z last
    ∙ c.mark.ensures (e ∷ past) (c.feed-reply.ensures.fits past fits)
    ∙ ap (λ (m : Program). mark (query_of m) (e ∷ past)) now
    ∙ ap (λ (es : List Event). mark (query_of p) (e ∷ es)) back in
    let told : IsTold (query_of p) rows e c.judge_event.result = c.judge_event.ensures p rows replied from to in
    c.in_ok-take.ensures p past cuts told
