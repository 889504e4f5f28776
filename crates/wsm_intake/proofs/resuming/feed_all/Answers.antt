use Rattle.std.proofs.Common.{◌∙◌, map, take, sym, subst, arith}
use Rattle.std.proofs.lemmas.List.{take_all}
use Rattle.wsm_record.specs.Event.{event_of}
use Rattle.wsm_engine.specs.Meaning.{Fits}
use Rattle.wsm_log_text.specs.Needed.{fed_all}
use Rattle.wsm_log_text.proofs.FedAll.{fed_more}
use Rattle.wsm_intake.proofs.resuming.feed_all.Goals as goal

pub loop-event-preserved : goal.loop-event-preserved
loop-event-preserved c = record {
  program = c.feed.ensures.program ∙ c.loop-event.invariant.program;
  fits = λ past fits.
      let mid = fed_all past (map event_of (take c.loop-event.event-index c.args.events.now)) in
      subst (Fits c.feed.new.self) (sym (fed_more event_of past c.args.events.now c.loop-event.event-index c.event-item.result (omega arith) c.event-item.is))
      (c.feed.ensures.fits mid (c.loop-event.invariant.fits past fits));
}

pub returns-clause-fits : goal.returns-clause-fits
returns-clause-fits c = λ past fits.
    subst (λ xs. Fits c.loop-event.engine (fed_all past (map event_of xs))) (take_all c.loop-event.event-index c.args.events.now (omega arith)) (c.loop-event.invariant.fits past fits)
