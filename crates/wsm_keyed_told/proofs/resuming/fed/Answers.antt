use Rattle.std.proofs.Common.{◌≡◌, ◌∙◌, true, map, take, sym, subst, arith}
use Rattle.std.proofs.lemmas.List.{take_all}
use Rattle.wsm_record.specs.Event.{event_of}
use Rattle.wsm_part_engines.specs.Fits.{Fits, is_named}
use Rattle.wsm_log_text.specs.Needed.{fed_all}
use Rattle.wsm_log_text.proofs.FedAll.{fed_more}
use Rattle.wsm_keyed_told.proofs.resuming.fed.Goals as goal

pub loop-event-preserved : goal.loop-event-preserved
loop-event-preserved c = record {
  program = c.in_ok-feed_numbered.ensures.program ∙ c.loop-event.invariant.program;
  fits = λ p names past many fits.
      let mid = fed_all past (map event_of (take c.loop-event.event-index c.args.events.now)) in
      let e = event_of c.event-item.result in
      let named : is_named names e ≡ true = sym (c.is_named.ensures names many) ∙ c.if-not-is_named.false in
      subst (Fits p names c.feed_numbered.new.self) (sym (fed_more event_of past c.args.events.now c.loop-event.event-index c.event-item.result (omega arith) c.event-item.is))
      (c.in_ok-feed_numbered.ensures.feeds.fits p names mid (c.loop-event.invariant.fits p names past many fits) named);
}

pub returns-clause-fits : goal.returns-clause-fits
returns-clause-fits c = λ p names past many fits.
    subst (λ xs. Fits p names c.loop-event.parts (fed_all past (map event_of xs))) (take_all c.loop-event.event-index c.args.events.now (omega arith)) (c.loop-event.invariant.fits p names past many fits)
