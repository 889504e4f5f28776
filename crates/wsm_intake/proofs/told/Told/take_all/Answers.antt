use Rattle.std.proofs.Common.{map, take, sym, subst, arith}
use Rattle.std.proofs.lemmas.List.{take_all}
use Rattle.wsm_record.specs.Event.{event_of}
use Rattle.wsm_log_text.specs.Needed.{fed_all}
use Rattle.wsm_intake.specs.Tells.{Serves}
use Rattle.wsm_log_text.proofs.FedAll.{fed_more}
use Rattle.wsm_intake.proofs.told.Told.take_all.Goals as goal

pub loop-event-preserved : goal.loop-event-preserved
loop-event-preserved c = λ p past serves.
    let mid = fed_all past (map event_of (take c.loop-event.event-index c.args.events.now)) in
    let told = (c.in_ok-take.ensures p mid (c.loop-event.invariant p past serves)).serves in
    subst (Serves p _) (sym (fed_more event_of past c.args.events.now c.loop-event.event-index c.event-item.result (omega arith) c.event-item.is))
    (record { program = told.program; fits = told.fits; staying = told.staying })

pub returns : goal.returns
returns c = λ p past serves.
    subst (λ xs. Serves p c.loop-event.self (fed_all past (map event_of xs))) (take_all c.loop-event.event-index c.args.events.now (omega arith)) (c.loop-event.invariant p past serves)
