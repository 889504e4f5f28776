use Rattle.std.proofs.Common.{◌≡◌, List, Option, Ok, ap, sym, subst, ◌∙◌, length, arith}
use Rattle.std.proofs.lemmas.List.{with_items_is}
use Rattle.std.specs.List.{AllByRecursion}
use Rattle.std.specs.Vec.{with_items}
use Rattle.wsm_record.specs.Event.{event_of}
use Rattle.wsm_admission.specs.declared.verdict.Admitted.TheVariants.{Watermark}
use Rattle.wsm_admission.specs.Admission.{after}
use Rattle.wsm_engine.specs.State.{State as EngineState}
use Rattle.wsm_part_engines.specs.Slots.{AreOf, FeedsAll}
use Rattle.wsm_part_engines.specs.Follows.{AllFollow}
use Rattle.wsm_part_engines.specs.Ordered.{IsRow, all_places, arranged}
use Rattle.wsm_part_engines.proofs.Following.{follow_watermark}
use Rattle.wsm_part_engines.proofs.ReadyEngines.{all_of, all_there}
use Rattle.wsm_part_engines.proofs.engines.Engines.take_watermark.Goals as goal

pub returns-in_err-place_all-clause-ready : goal.returns-in_err-place_all-clause-ready
returns-in_err-place_all-clause-ready c = λ p ready.
    let news = c.feed_all-fired.new.slots in
    let vec = with_items c.args.self.now.slots news in
    let is : vec.items ≡ news = with_items_is c.args.self.now.slots news (omega (arith, c.feed_all-fired.auto.slots, ap (λ (xs : List (Option EngineState)). length xs) c.deref_mut.ensures.value, c.args.self.now.slots.ok.0)) in
    let fed : FeedsAll c.args.self.now.slots.items news (event_of c.args.event.now) c.feed_all-fired.result =
    subst (λ (xs : List (Option EngineState)). FeedsAll xs news (event_of c.args.event.now) c.feed_all-fired.result) c.deref_mut.ensures.value c.feed_all-fired.ensures in
    record {
      bytes = ready.bytes;
      few = let few = ready.few in let a = vec.ok.0 in let b = c.args.self.now.slots.ok.0 in omega (arith, few, a, b);
      of = subst (AreOf p) (sym is) (all_of p c.args.self.now.slots.items news (event_of c.args.event.now) c.feed_all-fired.result ready.of fed);
      rows = subst (AllByRecursion (IsRow vec.items)) (sym c.in_err-place_all.ensures.none) tt;
    }

pub returns-clause-ready : goal.returns-clause-ready
returns-clause-ready c = λ p ready.
    let news = c.feed_all-fired.new.slots in
    let vec = with_items c.args.self.now.slots news in
    let is : vec.items ≡ news = with_items_is c.args.self.now.slots news (omega (arith, c.feed_all-fired.auto.slots, ap (λ (xs : List (Option EngineState)). length xs) c.deref_mut.ensures.value, c.args.self.now.slots.ok.0)) in
    let fed : FeedsAll c.args.self.now.slots.items news (event_of c.args.event.now) c.feed_all-fired.result =
    subst (λ (xs : List (Option EngineState)). FeedsAll xs news (event_of c.args.event.now) c.feed_all-fired.result) c.deref_mut.ensures.value c.feed_all-fired.ensures in
    record {
      bytes = ready.bytes;
      few = let few = ready.few in let a = vec.ok.0 in let b = c.args.self.now.slots.ok.0 in omega (arith, few, a, b);
      of = subst (AreOf p) (sym is) (all_of p c.args.self.now.slots.items news (event_of c.args.event.now) c.feed_all-fired.result ready.of fed);
      rows = subst (AllByRecursion (IsRow vec.items)) (sym (c.in_ok-place_all.ensures.placed ∙ ap (λ (xs : List (Option EngineState)). arranged (all_places 0 xs)) c.deref.ensures.value)) (all_there vec.items);
    }

pub returns-in_err-place_all-clause-follow : goal.returns-in_err-place_all-clause-follow
returns-in_err-place_all-clause-follow c = λ p ready front follow from to taken.
    let news = c.feed_all-fired.new.slots in
    let vec = with_items c.args.self.now.slots news in
    let is : vec.items ≡ news = with_items_is c.args.self.now.slots news (omega (arith, c.feed_all-fired.auto.slots, ap (λ (xs : List (Option EngineState)). length xs) c.deref_mut.ensures.value, c.args.self.now.slots.ok.0)) in
    let fed : FeedsAll c.args.self.now.slots.items news (event_of c.args.event.now) c.feed_all-fired.result =
    subst (λ (xs : List (Option EngineState)). FeedsAll xs news (event_of c.args.event.now) c.feed_all-fired.result) c.deref_mut.ensures.value c.feed_all-fired.ensures in
    subst (AllFollow (after (Ok (Watermark from to)) (event_of c.args.event.now) front)) (sym is)
    (follow_watermark p front (event_of c.args.event.now) c.args.self.now.slots.items news c.feed_all-fired.result ready.of fed follow from to taken)

pub returns-clause-follow : goal.returns-clause-follow
returns-clause-follow c = λ p ready front follow from to taken.
    let news = c.feed_all-fired.new.slots in
    let vec = with_items c.args.self.now.slots news in
    let is : vec.items ≡ news = with_items_is c.args.self.now.slots news (omega (arith, c.feed_all-fired.auto.slots, ap (λ (xs : List (Option EngineState)). length xs) c.deref_mut.ensures.value, c.args.self.now.slots.ok.0)) in
    let fed : FeedsAll c.args.self.now.slots.items news (event_of c.args.event.now) c.feed_all-fired.result =
    subst (λ (xs : List (Option EngineState)). FeedsAll xs news (event_of c.args.event.now) c.feed_all-fired.result) c.deref_mut.ensures.value c.feed_all-fired.ensures in
    subst (AllFollow (after (Ok (Watermark from to)) (event_of c.args.event.now) front)) (sym is)
    (follow_watermark p front (event_of c.args.event.now) c.args.self.now.slots.items news c.feed_all-fired.result ready.of fed follow from to taken)
