use Rattle.std.proofs.Common.{◌∙◌, ap}
use Rattle.wsm_record.specs.Event.{event_of}
use Rattle.wsm_semantics.specs.Relation.{turn_rows}
use Rattle.wsm_program.specs.Program.{Program}
use Rattle.wsm_machine.specs.Meaning.{query_of}
use Rattle.wsm_engine.specs.Meaning.{reply_to}
use Rattle.wsm_intake.specs.Staying.{Cuts}
use Rattle.wsm_log_text.proofs.NeededEvents.{some_in}
use Rattle.wsm_intake.proofs.told.Told.feed.Goals as goal

pub returns-in-Some-clause-fed : goal.returns-in-Some-clause-fed
returns-in-Some-clause-fed c = λ p past serves. c.feed.ensures.fed p past serves.program serves.fits

pub returns-in-Some-clause-staying : goal.returns-in-Some-clause-staying
returns-in-Some-clause-staying c = λ p past serves.
    c.feed.ensures.cuts p past serves.program serves.fits (some_in (λ k. Cuts p k past) c.args.self.now.staying c.in-Some.staying c.in-Some.is serves.staying)

pub returns-in-None-clause-fed : goal.returns-in-None-clause-fed
returns-in-None-clause-fed c = λ p past serves.
    let e = event_of c.args.event.now in
    record {
      program = c.feed-in-None.ensures.program ∙ serves.program;
      fits = c.feed-in-None.ensures.fits past serves.fits;
      is = c.feed-in-None.ensures.reply past serves.fits ∙ ap (λ (m : Program). reply_to m past e) serves.program;
      rows = c.feed-in-None.ensures.rows past serves.fits ∙ ap (λ (m : Program). turn_rows (query_of m) past e) serves.program;
    }
