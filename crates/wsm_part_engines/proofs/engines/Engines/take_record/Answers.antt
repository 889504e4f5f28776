use Rattle.std.proofs.Common.{◌≡◌, List, ℕ, Option, Ok, ap, sym, subst, ◌∙◌, length, arith}
use Rattle.std.proofs.lemmas.List.{with_items_is}
use Rattle.std.specs.List.{AllByRecursion}
use Rattle.std.specs.Vec.{with_items}
use Rattle.wsm_record.specs.Event.{Event, event_of}
use Rattle.wsm_admission.specs.declared.verdict.Admitted.TheVariants.{Record}
use Rattle.wsm_admission.specs.Admission.{after}
use Rattle.wsm_engine.specs.State.{State as EngineState}
use Rattle.wsm_part_engines.specs.Fits.{engine_at}
use Rattle.wsm_part_engines.specs.Slots.{AreOf, FeedsOne, Holds, IsAdmitted, Opens, rows_of, selected_on}
use Rattle.wsm_part_engines.specs.Follows.{AllFollow}
use Rattle.wsm_part_engines.specs.Ordered.{IsRow, places_from}
use Rattle.wsm_part_engines.proofs.Following.{admits, follow_opened, follow_record, follow_same}
use Rattle.wsm_part_engines.proofs.ReadyEngines.{chosen, mids_of, one_of, rows_there, took}
use Rattle.wsm_part_engines.proofs.engines.Engines.take_record.Goals as goal

pub feed_one-fed-requires : goal.feed_one-fed-requires
feed_one-fed-requires c =
    let may = c.requires.may in
    let p = may.program in
    let mids = c.open_part.new.slots.items in
    let opens : Opens c.args.self.now.bytes.items c.args.marks.now c.args.part c.args.self.now.slots.items mids =
    subst (λ (bytes : List ℕ). Opens bytes c.args.marks.now c.args.part c.args.self.now.slots.items mids) c.deref.ensures.value c.in_ok-open_part.ensures.opens in
    let of : AreOf p mids = mids_of p c.args.self.now.bytes.items c.args.marks.now c.args.part c.args.self.now.slots.items mids opens may.lawful may.ready.bytes may.ready.of in
    let follow : AllFollow may.front mids = follow_opened p c.args.marks.now may.front may.is_front c.args.self.now.bytes.items c.args.part c.args.self.now.slots.items mids opens may.lawful may.ready.bytes may.follow in
    subst (λ (xs : List (Option EngineState)). IsAdmitted (event_of c.args.event.now) (engine_at xs c.args.part)) (sym c.deref_mut.ensures.value)
    (admits p may.front (event_of c.args.event.now) (engine_at mids c.args.part) (of c.args.part) (follow c.args.part) may.taken)

pub returns-in_err-place_one-clause-ready : goal.returns-in_err-place_one-clause-ready
returns-in_err-place_one-clause-ready c = λ p lawful ready.
    let mids = c.open_part.new.slots.items in
    let news = c.feed_one-fed.new.slots in
    let vec = with_items c.open_part.new.slots news in
    let is : vec.items ≡ news = with_items_is c.open_part.new.slots news (omega (arith, c.feed_one-fed.auto.slots, ap (λ (xs : List (Option EngineState)). length xs) c.deref_mut.ensures.value, c.open_part.new.slots.ok.0)) in
    let opens : Opens c.args.self.now.bytes.items c.args.marks.now c.args.part c.args.self.now.slots.items mids =
    subst (λ (bytes : List ℕ). Opens bytes c.args.marks.now c.args.part c.args.self.now.slots.items mids) c.deref.ensures.value c.in_ok-open_part.ensures.opens in
    let fed : FeedsOne c.args.part mids news (event_of c.args.event.now) c.feed_one-fed.result.fired =
    subst (λ (xs : List (Option EngineState)). FeedsOne c.args.part xs news (event_of c.args.event.now) c.feed_one-fed.result.fired) c.deref_mut.ensures.value c.feed_one-fed.ensures.feeds in
    record {
      bytes = ready.bytes;
      few = let few = c.in_ok-open_part.ensures.few in let a = vec.ok.0 in let b = c.open_part.new.slots.ok.0 in omega (arith, few, a, b);
      of = subst (AreOf p) (sym is) (one_of p c.args.part mids news (event_of c.args.event.now) c.feed_one-fed.result.fired
          (mids_of p c.args.self.now.bytes.items c.args.marks.now c.args.part c.args.self.now.slots.items mids opens lawful ready.bytes ready.of) fed);
      rows = subst (AllByRecursion (IsRow vec.items)) (sym c.in_err-place_one.ensures.none) tt;
    }

pub returns-clause-ready : goal.returns-clause-ready
returns-clause-ready c = λ p lawful ready.
    let mids = c.open_part.new.slots.items in
    let news = c.feed_one-fed.new.slots in
    let vec = with_items c.open_part.new.slots news in
    let is : vec.items ≡ news = with_items_is c.open_part.new.slots news (omega (arith, c.feed_one-fed.auto.slots, ap (λ (xs : List (Option EngineState)). length xs) c.deref_mut.ensures.value, c.open_part.new.slots.ok.0)) in
    let opens : Opens c.args.self.now.bytes.items c.args.marks.now c.args.part c.args.self.now.slots.items mids =
    subst (λ (bytes : List ℕ). Opens bytes c.args.marks.now c.args.part c.args.self.now.slots.items mids) c.deref.ensures.value c.in_ok-open_part.ensures.opens in
    let fed : FeedsOne c.args.part mids news (event_of c.args.event.now) c.feed_one-fed.result.fired =
    subst (λ (xs : List (Option EngineState)). FeedsOne c.args.part xs news (event_of c.args.event.now) c.feed_one-fed.result.fired) c.deref_mut.ensures.value c.feed_one-fed.ensures.feeds in
    record {
      bytes = ready.bytes;
      few = let few = c.in_ok-open_part.ensures.few in let a = vec.ok.0 in let b = c.open_part.new.slots.ok.0 in omega (arith, few, a, b);
      of = subst (AreOf p) (sym is) (one_of p c.args.part mids news (event_of c.args.event.now) c.feed_one-fed.result.fired
          (mids_of p c.args.self.now.bytes.items c.args.marks.now c.args.part c.args.self.now.slots.items mids opens lawful ready.bytes ready.of) fed);
      rows = subst (AllByRecursion (IsRow vec.items)) (sym (c.in_ok-place_one.ensures.placed ∙ ap (λ (xs : List (Option EngineState)). places_from c.args.part 0 (rows_of (engine_at xs c.args.part))) c.deref-2.ensures.value)) (rows_there vec.items c.args.part);
    }

pub returns-in_err-open_part-clause-follow : goal.returns-in_err-open_part-clause-follow
returns-in_err-open_part-clause-follow c = λ p lawful ready front is_front follow admitted.
    follow_same p front (event_of c.args.event.now) c.args.self.now.slots.items c.open_part.new.slots.items c.in_err-open_part.ensures.same follow

pub returns-in_err-place_one-clause-follow : goal.returns-in_err-place_one-clause-follow
returns-in_err-place_one-clause-follow c = λ p lawful ready front is_front follow admitted.
    let mids = c.open_part.new.slots.items in
    let news = c.feed_one-fed.new.slots in
    let vec = with_items c.open_part.new.slots news in
    let is : vec.items ≡ news = with_items_is c.open_part.new.slots news (omega (arith, c.feed_one-fed.auto.slots, ap (λ (xs : List (Option EngineState)). length xs) c.deref_mut.ensures.value, c.open_part.new.slots.ok.0)) in
    let opens : Opens c.args.self.now.bytes.items c.args.marks.now c.args.part c.args.self.now.slots.items mids =
    subst (λ (bytes : List ℕ). Opens bytes c.args.marks.now c.args.part c.args.self.now.slots.items mids) c.deref.ensures.value c.in_ok-open_part.ensures.opens in
    let fed : FeedsOne c.args.part mids news (event_of c.args.event.now) c.feed_one-fed.result.fired =
    subst (λ (xs : List (Option EngineState)). FeedsOne c.args.part xs news (event_of c.args.event.now) c.feed_one-fed.result.fired) c.deref_mut.ensures.value c.feed_one-fed.ensures.feeds in
    subst (AllFollow (after (Ok Record) (event_of c.args.event.now) front)) (sym is)
    (follow_record p front (event_of c.args.event.now) c.args.part mids news c.feed_one-fed.result.fired
    (mids_of p c.args.self.now.bytes.items c.args.marks.now c.args.part c.args.self.now.slots.items mids opens lawful ready.bytes ready.of) fed
    (follow_opened p c.args.marks.now front is_front c.args.self.now.bytes.items c.args.part c.args.self.now.slots.items mids opens lawful ready.bytes follow) admitted)

pub returns-clause-follow : goal.returns-clause-follow
returns-clause-follow c = λ p lawful ready front is_front follow admitted.
    let mids = c.open_part.new.slots.items in
    let news = c.feed_one-fed.new.slots in
    let vec = with_items c.open_part.new.slots news in
    let is : vec.items ≡ news = with_items_is c.open_part.new.slots news (omega (arith, c.feed_one-fed.auto.slots, ap (λ (xs : List (Option EngineState)). length xs) c.deref_mut.ensures.value, c.open_part.new.slots.ok.0)) in
    let opens : Opens c.args.self.now.bytes.items c.args.marks.now c.args.part c.args.self.now.slots.items mids =
    subst (λ (bytes : List ℕ). Opens bytes c.args.marks.now c.args.part c.args.self.now.slots.items mids) c.deref.ensures.value c.in_ok-open_part.ensures.opens in
    let fed : FeedsOne c.args.part mids news (event_of c.args.event.now) c.feed_one-fed.result.fired =
    subst (λ (xs : List (Option EngineState)). FeedsOne c.args.part xs news (event_of c.args.event.now) c.feed_one-fed.result.fired) c.deref_mut.ensures.value c.feed_one-fed.ensures.feeds in
    subst (AllFollow (after (Ok Record) (event_of c.args.event.now) front)) (sym is)
    (follow_record p front (event_of c.args.event.now) c.args.part mids news c.feed_one-fed.result.fired
    (mids_of p c.args.self.now.bytes.items c.args.marks.now c.args.part c.args.self.now.slots.items mids opens lawful ready.bytes ready.of) fed
    (follow_opened p c.args.marks.now front is_front c.args.self.now.bytes.items c.args.part c.args.self.now.slots.items mids opens lawful ready.bytes follow) admitted)

pub returns-clause-takes : goal.returns-clause-takes
returns-clause-takes c = λ p lawful ready.
    let mids = c.open_part.new.slots.items in
    let news = c.feed_one-fed.new.slots in
    let vec = with_items c.open_part.new.slots news in
    let is : vec.items ≡ news = with_items_is c.open_part.new.slots news (omega (arith, c.feed_one-fed.auto.slots, ap (λ (xs : List (Option EngineState)). length xs) c.deref_mut.ensures.value, c.open_part.new.slots.ok.0)) in
    let opens : Opens c.args.self.now.bytes.items c.args.marks.now c.args.part c.args.self.now.slots.items mids =
    subst (λ (bytes : List ℕ). Opens bytes c.args.marks.now c.args.part c.args.self.now.slots.items mids) c.deref.ensures.value c.in_ok-open_part.ensures.opens in
    let fed : FeedsOne c.args.part mids news (event_of c.args.event.now) c.feed_one-fed.result.fired =
    subst (λ (xs : List (Option EngineState)). FeedsOne c.args.part xs news (event_of c.args.event.now) c.feed_one-fed.result.fired) c.deref_mut.ensures.value c.feed_one-fed.ensures.feeds in
    let one = subst (λ (xs : List (Option EngineState)). FeedsOne c.args.part mids xs (event_of c.args.event.now) c.feed_one-fed.result.fired) (sym is) fed in
    record {
      one = λ before held is_fed there. took p c.args.self.now.bytes.items c.args.marks.now c.args.part c.args.self.now.slots.items mids opens lawful ready.bytes ready.of
          (event_of c.args.event.now) before held is_fed there (engine_at vec.items c.args.part) c.feed_one-fed.result.fired one.one;
      others = λ other ne. one.others other ne ∙ opens.others other ne;
      rows = c.in_ok-place_one.ensures.placed ∙ ap (λ (xs : List (Option EngineState)). places_from c.args.part 0 (rows_of (engine_at xs c.args.part))) c.deref-2.ensures.value;
    }

pub returns-clause-selects : goal.returns-clause-selects
returns-clause-selects c = λ p lawful ready before held is_fed there.
    let e = event_of c.args.event.now in
    let mids = c.open_part.new.slots.items in
    let opens : Opens c.args.self.now.bytes.items c.args.marks.now c.args.part c.args.self.now.slots.items mids =
    subst (λ (bytes : List ℕ). Opens bytes c.args.marks.now c.args.part c.args.self.now.slots.items mids) c.deref.ensures.value c.in_ok-open_part.ensures.opens in
    let selected : (past : List Event) → Holds (engine_at mids c.args.part) past → c.feed_one-fed.result.selected ≡ selected_on (engine_at mids c.args.part) past e =
    subst (λ (xs : List (Option EngineState)). (past : List Event) → Holds (engine_at xs c.args.part) past → c.feed_one-fed.result.selected ≡ selected_on (engine_at xs c.args.part) past e) c.deref_mut.ensures.value c.feed_one-fed.ensures.selected in
    chosen p c.args.self.now.bytes.items c.args.marks.now c.args.part c.args.self.now.slots.items mids opens lawful ready.bytes ready.of e before held is_fed there c.feed_one-fed.result.selected selected
