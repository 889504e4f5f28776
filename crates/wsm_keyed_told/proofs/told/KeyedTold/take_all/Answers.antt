use Rattle.std.proofs.Common.{◌∙◌, map, take, sym, subst, arith}
use Rattle.std.proofs.lemmas.List.{take_all}
use Rattle.wsm_record.specs.Event.{event_of}
use Rattle.wsm_log_text.specs.Needed.{fed_all}
use Rattle.wsm_log_text.proofs.FedAll.{fed_more}
use Rattle.wsm_keyed_told.specs.Tells.{Serves}
use Rattle.wsm_keyed_told.proofs.told.KeyedTold.take_all.Goals as goal

pub loop-event-preserved : goal.loop-event-preserved
loop-event-preserved c = λ p past serves.
    let mid = fed_all past (map event_of (take c.loop-event.event-index c.args.events.now)) in
    let before = c.loop-event.invariant p past serves in
    let told = c.in_ok-take.ensures p mid before.0 in (
      subst (Serves p _) (sym (fed_more event_of past c.args.events.now c.loop-event.event-index c.event-item.result (omega arith) c.event-item.is))
          (record { lawful = told.serves.lawful; panes = told.serves.panes; parts = told.serves.parts; staying = told.serves.staying }),
      told.names ∙ before.1,
    )

pub returns : goal.returns
returns c = λ p past serves.
    let all = c.loop-event.invariant p past serves in
    (subst (λ xs. Serves p c.loop-event.self (fed_all past (map event_of xs))) (take_all c.loop-event.event-index c.args.events.now (omega arith)) all.0, all.1)
