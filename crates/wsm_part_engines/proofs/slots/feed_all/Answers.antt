use Rattle.std.proofs.Common.{◌≡◌, ◌<◌, None, Option, arith, length, sym, subst, ◌∙◌}
use Rattle.std.proofs.lemmas.List.{get_or_default}
use Rattle.wsm_record.specs.Event.{event_of}
use Rattle.wsm_engine.specs.State.{State as EngineState}
use Rattle.wsm_part_engines.specs.Fits.{engine_at}
use Rattle.wsm_part_engines.specs.Slots.{Feeds, IsJudged}
use Rattle.wsm_part_engines.proofs.FedSlots.{all_took, each_more, others_still, fired_more}
use Rattle.wsm_part_engines.proofs.slots.feed_all.Goals as goal

pub feed_slot-requires : goal.feed_slot-requires
feed_slot-requires c =
    let i = c.loop-slot.slot-index in
    let few : i < length c.loop-slot.slots = omega (arith, c.loop-slot-test.true, c.loop-slot.auto.slots) in
    subst (IsJudged c.args.values_fit (event_of c.args.event.now)) (sym (get_or_default c.loop-slot.slots i c.slot-item.result None few ∙ c.loop-slot.invariant.others i (omega arith))) (c.requires i)

pub loop-slot-preserved : goal.loop-slot-preserved
loop-slot-preserved c =
    let i = c.loop-slot.slot-index in
    let slots = c.loop-slot.slots in
    let olds = c.args.slots.now in
    let e = event_of c.args.event.now in
    let few : i < length slots = omega (arith, c.loop-slot-test.true, c.loop-slot.auto.slots) in
    let takes : Feeds (engine_at slots i) c.feed_slot.new.slot e c.feed_slot.result.fired =
    subst (λ (s : Option EngineState). Feeds s c.feed_slot.new.slot e c.feed_slot.result.fired) (get_or_default slots i c.slot-item.result None few) c.feed_slot.ensures.feeds in
    let others = c.loop-slot.invariant.others in
    record {
      each = each_more olds slots e i c.feed_slot.new.slot c.feed_slot.result.fired few takes others c.loop-slot.invariant.each;
      others = others_still olds slots e i c.feed_slot.new.slot c.feed_slot.result.fired few takes others;
      fired = λ fed is. c.saturating_add-fired.ensures ∙ fired_more olds slots e i c.feed_slot.new.slot c.feed_slot.result.fired few takes others c.loop-slot.fired fed is (c.loop-slot.invariant.fired fed is);
    }

pub returns : goal.returns
returns c =
    let len : length c.args.slots.now ≡ c.loop-slot.slot-index = omega (arith, c.loop-slot-test.false, c.loop-slot.auto.slots, c.loop-slot.auto.slot-index-end) in
    all_took c.args.slots.now c.loop-slot.slots (event_of c.args.event.now) c.loop-slot.slot-index c.loop-slot.fired len c.loop-slot.invariant.each c.loop-slot.invariant.others c.loop-slot.invariant.fired
