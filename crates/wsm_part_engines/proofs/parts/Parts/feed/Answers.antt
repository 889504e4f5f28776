use Rattle.std.proofs.Common.{◌≡◌, None, Ok, Result, Some, false, List, length, map, ℤ, refl, ap, sym, subst, ◌∙◌, arith}
use Rattle.std.proofs.lemmas.List.{with_items_is}
use Rattle.std.specs.Vec.{with_items}
use Rattle.std.specs.List.{AllByRecursion}
use Rattle.wsm_record.specs.Event.{Event, event_of}
use Rattle.wsm_admission.specs.declared.clock.Clock.{Clock}
use Rattle.wsm_admission.specs.declared.verdict.Admitted.{Admitted}
use Rattle.wsm_admission.specs.declared.verdict.Admitted.TheVariants as admitted
use Rattle.wsm_admission.specs.declared.verdict.Refusal.{Refusal}
use Rattle.wsm_admission.specs.Clock.{IsTimely}
use Rattle.wsm_admission.specs.Admission.{after, decision, marks_with}
use Rattle.wsm_admission.specs.Admission as admission
use Rattle.wsm_program.specs.Program.{Header, Program}
use Rattle.wsm_engine.proofs.Limits.{clock_timely}
use Rattle.wsm_part_engines.specs.declared.engines.Engines.{Engines}
use Rattle.wsm_part_engines.specs.declared.row_place.RowPlace.{RowPlace}
use Rattle.wsm_part_engines.specs.Answers.{Feeds, IsSelected}
use Rattle.wsm_part_engines.specs.Fits.{IsPlaced, by_number}
use Rattle.wsm_part_engines.specs.Follows.{AllFollow, IsFront}
use Rattle.wsm_part_engines.specs.Ordered.{IsRow, row_at}
use Rattle.wsm_part_engines.specs.Ready.{IsReady}
use Rattle.wsm_part_engines.specs.State.{State}
use Rattle.wsm_part_engines.specs.View.{state_of}
use Rattle.wsm_part_engines.proofs.Following.{clock_kept, few_marks, history_kept, refused_follow, refused_marks, same_marks}
use Rattle.wsm_part_engines.proofs.Feeding.{record_feeds, record_selects, refused_feeds, refused_selects, watermark_feeds, watermark_selects}
use Rattle.wsm_part_engines.proofs.parts.Parts.feed.Goals as goal

pub decide_judged-answer-requires-clause-timely : goal.decide_judged-answer-requires-clause-timely
decide_judged-answer-requires-clause-timely c =
    let a = c.self.inside in
    subst (λ (h : Header). IsTimely a.front.clock.from_window h.shape) (sym c.header-header.ensures.header)
    (subst (λ (k : Clock). IsTimely k.from_window a.program.header.shape) (sym c.self.invariant.clock) (clock_timely a.program c.self.invariant.lawful))

pub take_record-requires-clause-may : goal.take_record-requires-clause-may
take_record-requires-clause-may c =
    let a = c.self.inside in
    let sound = c.self.invariant in
    let p : Program = a.program in
    let e : Event = event_of c.args.event.now in
    let answer = c.decide_judged-answer in
    let decided : answer.result ≡ decision p.header.shape p.header.schema a.front e = answer.ensures.decision ∙ ap (λ (h : Header). decision h.shape h.schema a.front e) c.header-header.ensures.header in
    let cleared : Engines = record a.engines { order = c.clear.new.self } in
    let ready : IsReady p cleared = record { bytes = sound.engines.bytes; few = sound.engines.few; of = sound.engines.of; rows = subst (AllByRecursion (IsRow a.engines.slots.items)) (sym c.clear.ensures.items) tt } in
    let is : answer.result ≡ Ok admitted.Record = c.in-Ok.is ∙ ap Ok c.in-Record.is in
    let front : IsFront p c.deref.result.now a.front = record { clock = sound.clock; marks = c.deref.ensures.value ∙ sound.marks; history = sound.history } in
    record { program = p; lawful = sound.lawful; ready = ready; front = a.front; is_front = front; follow = sound.follow; taken = sym decided ∙ is }

pub invariant_of-self-in_err-fired-in-Watermark : goal.invariant_of-self-in_err-fired-in-Watermark
invariant_of-self-in_err-fired-in-Watermark c =
    let a = c.self.inside in
    let sound = c.self.invariant in
    let p : Program = a.program in
    let e : Event = event_of c.args.event.now in
    let answer = c.decide_judged-answer in
    let decided : answer.result ≡ decision p.header.shape p.header.schema a.front e = answer.ensures.decision ∙ ap (λ (h : Header). decision h.shape h.schema a.front e) c.header-header.ensures.header in
    let cleared : Engines = record a.engines { order = c.clear.new.self } in
    let ready : IsReady p cleared = record { bytes = sound.engines.bytes; few = sound.engines.few; of = sound.engines.of; rows = subst (AllByRecursion (IsRow a.engines.slots.items)) (sym c.clear.ensures.items) tt } in
    let is : answer.result ≡ Ok (admitted.Watermark c.in-Watermark.old c.in-Watermark.new) = c.in-Ok.is ∙ ap Ok c.in-Watermark.is in
    let raised = c.raise.new.marks in
    let vec = with_items a.marks raised in
    let there : vec.items ≡ raised = with_items_is a.marks raised (omega (arith, c.raise.auto.marks, ap (λ (xs : List ℤ). length xs) c.deref_mut.ensures.value, a.marks.ok.0)) in
    let marks : vec.items ≡ marks_with a.front.marks e = there ∙ c.raise.ensures ∙ ap (λ (ms : List ℤ). marks_with ms e) (c.deref_mut.ensures.value ∙ sound.marks) in
    record {
      lawful = sound.lawful;
      panes = sound.panes;
      keyless = sound.keyless;
      clock = clock_kept a.front answer.new.self e answer.result answer.ensures.state ∙ sound.clock;
      history = history_kept a.front answer.new.self e answer.result answer.ensures.state p.header.shape p.header.schema decided sound.history;
      marks = marks ∙ sym (same_marks a.front answer.new.self e answer.result answer.ensures.state (Ok (admitted.Watermark c.in-Watermark.old c.in-Watermark.new)) is);
      few = let few = sound.few in let same = few_marks a.front.marks e in omega (arith, few, same, ap (λ (xs : List ℤ). length xs) marks, ap (λ (xs : List ℤ). length xs) sound.marks);
      engines = c.take_watermark.ensures.ready p ready;
      follow = subst (λ (s : admission.State). AllFollow s c.take_watermark.new.self.slots.items) (sym (answer.ensures.state ∙ ap (λ (r : Result Admitted Refusal). after r e a.front) is))
          (c.take_watermark.ensures.follow p ready a.front sound.follow c.in-Watermark.old c.in-Watermark.new (sym decided ∙ is));
    }

pub invariant_of-self-in-Watermark : goal.invariant_of-self-in-Watermark
invariant_of-self-in-Watermark c =
    let a = c.self.inside in
    let sound = c.self.invariant in
    let p : Program = a.program in
    let e : Event = event_of c.args.event.now in
    let answer = c.decide_judged-answer in
    let decided : answer.result ≡ decision p.header.shape p.header.schema a.front e = answer.ensures.decision ∙ ap (λ (h : Header). decision h.shape h.schema a.front e) c.header-header.ensures.header in
    let cleared : Engines = record a.engines { order = c.clear.new.self } in
    let ready : IsReady p cleared = record { bytes = sound.engines.bytes; few = sound.engines.few; of = sound.engines.of; rows = subst (AllByRecursion (IsRow a.engines.slots.items)) (sym c.clear.ensures.items) tt } in
    let is : answer.result ≡ Ok (admitted.Watermark c.in-Watermark.old c.in-Watermark.new) = c.in-Ok.is ∙ ap Ok c.in-Watermark.is in
    let raised = c.raise.new.marks in
    let vec = with_items a.marks raised in
    let there : vec.items ≡ raised = with_items_is a.marks raised (omega (arith, c.raise.auto.marks, ap (λ (xs : List ℤ). length xs) c.deref_mut.ensures.value, a.marks.ok.0)) in
    let marks : vec.items ≡ marks_with a.front.marks e = there ∙ c.raise.ensures ∙ ap (λ (ms : List ℤ). marks_with ms e) (c.deref_mut.ensures.value ∙ sound.marks) in
    record {
      lawful = sound.lawful;
      panes = sound.panes;
      keyless = sound.keyless;
      clock = clock_kept a.front answer.new.self e answer.result answer.ensures.state ∙ sound.clock;
      history = history_kept a.front answer.new.self e answer.result answer.ensures.state p.header.shape p.header.schema decided sound.history;
      marks = marks ∙ sym (same_marks a.front answer.new.self e answer.result answer.ensures.state (Ok (admitted.Watermark c.in-Watermark.old c.in-Watermark.new)) is);
      few = let few = sound.few in let same = few_marks a.front.marks e in omega (arith, few, same, ap (λ (xs : List ℤ). length xs) marks, ap (λ (xs : List ℤ). length xs) sound.marks);
      engines = c.take_watermark.ensures.ready p ready;
      follow = subst (λ (s : admission.State). AllFollow s c.take_watermark.new.self.slots.items) (sym (answer.ensures.state ∙ ap (λ (r : Result Admitted Refusal). after r e a.front) is))
          (c.take_watermark.ensures.follow p ready a.front sound.follow c.in-Watermark.old c.in-Watermark.new (sym decided ∙ is));
    }

pub invariant_of-self-in-Err : goal.invariant_of-self-in-Err
invariant_of-self-in-Err c =
    let a = c.self.inside in
    let sound = c.self.invariant in
    let p : Program = a.program in
    let e : Event = event_of c.args.event.now in
    let answer = c.decide_judged-answer in
    let decided : answer.result ≡ decision p.header.shape p.header.schema a.front e = answer.ensures.decision ∙ ap (λ (h : Header). decision h.shape h.schema a.front e) c.header-header.ensures.header in
    let cleared : Engines = record a.engines { order = c.clear.new.self } in
    let ready : IsReady p cleared = record { bytes = sound.engines.bytes; few = sound.engines.few; of = sound.engines.of; rows = subst (AllByRecursion (IsRow a.engines.slots.items)) (sym c.clear.ensures.items) tt } in
    let is = c.in-Err.is in
    record {
      lawful = sound.lawful;
      panes = sound.panes;
      keyless = sound.keyless;
      clock = clock_kept a.front answer.new.self e answer.result answer.ensures.state ∙ sound.clock;
      history = history_kept a.front answer.new.self e answer.result answer.ensures.state p.header.shape p.header.schema decided sound.history;
      marks = sound.marks ∙ sym (refused_marks a.front answer.new.self e answer.result answer.ensures.state c.in-Err.refusal is);
      few = sound.few;
      engines = ready;
      follow = refused_follow a.front answer.new.self e answer.result answer.ensures.state a.engines.slots.items c.in-Err.refusal is sound.follow;
    }

pub returns-in_ok-fed-in-Record-clause-feeds : goal.returns-in_ok-fed-in-Record-clause-feeds
returns-in_ok-fed-in-Record-clause-feeds c =
    let a = c.self.inside in
    let sound = c.self.invariant in
    let p : Program = a.program in
    let e : Event = event_of c.args.event.now in
    let s : State = state_of a in
    let place : IsPlaced (length p.header.schema.keys) e = subst (λ (t : State). IsPlaced (length t.program.header.schema.keys) e) (sym c.self.view_is) c.requires.placed in
    let answer = c.decide_judged-answer in
    let decided : answer.result ≡ decision p.header.shape p.header.schema a.front e = answer.ensures.decision ∙ ap (λ (h : Header). decision h.shape h.schema a.front e) c.header-header.ensures.header in
    let cleared : Engines = record a.engines { order = c.clear.new.self } in
    let ready : IsReady p cleared = record { bytes = sound.engines.bytes; few = sound.engines.few; of = sound.engines.of; rows = subst (AllByRecursion (IsRow a.engines.slots.items)) (sym c.clear.ensures.items) tt } in
    let takes = c.in_ok-fed-in-Record.ensures.takes p sound.lawful ready in
    let is : answer.result ≡ Ok admitted.Record = c.in-Ok.is ∙ ap Ok c.in-Record.is in
    let news = c.take_record.new.self.slots.items in
    let new : State = record { program = p; front = answer.new.self; engines = news; fed = c.saturating_add-self-inside.result; fired = c.saturating_add-self-inside-in-Record.result; rows = map (row_at (length p.header.schema.keys) news) c.take_record.new.self.order.items } in
    subst (λ (t : State). Feeds t new (by_number (length t.program.header.schema.keys) c.args.part e) None) c.self.view_is
    (record_feeds p sound.lawful sound.panes sound.keyless a.front answer.new.self a.engines.slots.items news a.fed c.saturating_add-self-inside.result a.fired c.saturating_add-self-inside-in-Record.result s.rows
    (map (row_at (length p.header.schema.keys) news) c.take_record.new.self.order.items) c.args.part e place answer.result decided answer.ensures.state c.saturating_add-self-inside.ensures
    is c.deref.result.now (c.deref.ensures.value ∙ sound.marks) c.in_ok-fed-in-Record.fed.fired c.saturating_add-self-inside-in-Record.ensures
    takes.one takes.others (ap (λ (ps : List RowPlace). map (row_at (length p.header.schema.keys) news) ps) takes.rows))

pub returns-in_ok-fired-in-Watermark-clause-feeds : goal.returns-in_ok-fired-in-Watermark-clause-feeds
returns-in_ok-fired-in-Watermark-clause-feeds c =
    let a = c.self.inside in
    let sound = c.self.invariant in
    let p : Program = a.program in
    let e : Event = event_of c.args.event.now in
    let s : State = state_of a in
    let place : IsPlaced (length p.header.schema.keys) e = subst (λ (t : State). IsPlaced (length t.program.header.schema.keys) e) (sym c.self.view_is) c.requires.placed in
    let answer = c.decide_judged-answer in
    let decided : answer.result ≡ decision p.header.shape p.header.schema a.front e = answer.ensures.decision ∙ ap (λ (h : Header). decision h.shape h.schema a.front e) c.header-header.ensures.header in
    let takes = c.in_ok-fired-in-Watermark.ensures.takes in
    let is : answer.result ≡ Ok (admitted.Watermark c.in-Watermark.old c.in-Watermark.new) = c.in-Ok.is ∙ ap Ok c.in-Watermark.is in
    let news = c.take_watermark.new.self.slots.items in
    let new : State = record { program = p; front = answer.new.self; engines = news; fed = c.saturating_add-self-inside.result; fired = c.saturating_add-self-inside-in-Watermark.result; rows = map (row_at (length p.header.schema.keys) news) c.take_watermark.new.self.order.items } in
    subst (λ (t : State). Feeds t new (by_number (length t.program.header.schema.keys) c.args.part e) None) c.self.view_is
    (watermark_feeds p sound.lawful sound.panes sound.keyless a.front answer.new.self a.engines.slots.items news a.fed c.saturating_add-self-inside.result a.fired c.saturating_add-self-inside-in-Watermark.result s.rows
    (map (row_at (length p.header.schema.keys) news) c.take_watermark.new.self.order.items) c.args.part e place answer.result decided answer.ensures.state c.saturating_add-self-inside.ensures
    c.in-Watermark.old c.in-Watermark.new is sound.engines.of c.in_ok-fired-in-Watermark.fired
    c.saturating_add-self-inside-in-Watermark.ensures takes.all (ap (λ (ps : List RowPlace). map (row_at (length p.header.schema.keys) news) ps) takes.rows))

pub returns-in-Err-clause-feeds : goal.returns-in-Err-clause-feeds
returns-in-Err-clause-feeds c =
    let a = c.self.inside in
    let sound = c.self.invariant in
    let p : Program = a.program in
    let e : Event = event_of c.args.event.now in
    let s : State = state_of a in
    let place : IsPlaced (length p.header.schema.keys) e = subst (λ (t : State). IsPlaced (length t.program.header.schema.keys) e) (sym c.self.view_is) c.requires.placed in
    let answer = c.decide_judged-answer in
    let decided : answer.result ≡ decision p.header.shape p.header.schema a.front e = answer.ensures.decision ∙ ap (λ (h : Header). decision h.shape h.schema a.front e) c.header-header.ensures.header in
    let news = a.engines.slots.items in
    let new : State = record { program = p; front = answer.new.self; engines = news; fed = c.saturating_add-self-inside.result; fired = a.fired; rows = map (row_at (length p.header.schema.keys) news) c.clear.new.self.items } in
    subst (λ (t : State). Feeds t new (by_number (length t.program.header.schema.keys) c.args.part e) (Some c.in-Err.refusal)) c.self.view_is
    (refused_feeds p sound.lawful sound.panes sound.keyless a.front answer.new.self a.engines.slots.items news a.fed c.saturating_add-self-inside.result a.fired a.fired s.rows
    (map (row_at (length p.header.schema.keys) news) c.clear.new.self.items) c.args.part e place answer.result decided answer.ensures.state c.saturating_add-self-inside.ensures
    c.in-Err.refusal c.in-Err.is refl refl (ap (λ (ps : List RowPlace). map (row_at (length p.header.schema.keys) news) ps) c.clear.ensures.items))

pub returns-in_ok-fed-in-Record-clause-selected : goal.returns-in_ok-fed-in-Record-clause-selected
returns-in_ok-fed-in-Record-clause-selected c =
    let a = c.self.inside in
    let sound = c.self.invariant in
    let p : Program = a.program in
    let e : Event = event_of c.args.event.now in
    let s : State = state_of a in
    let place : IsPlaced (length p.header.schema.keys) e = subst (λ (t : State). IsPlaced (length t.program.header.schema.keys) e) (sym c.self.view_is) c.requires.placed in
    let answer = c.decide_judged-answer in
    let decided : answer.result ≡ decision p.header.shape p.header.schema a.front e = answer.ensures.decision ∙ ap (λ (h : Header). decision h.shape h.schema a.front e) c.header-header.ensures.header in
    let cleared : Engines = record a.engines { order = c.clear.new.self } in
    let ready : IsReady p cleared = record { bytes = sound.engines.bytes; few = sound.engines.few; of = sound.engines.of; rows = subst (AllByRecursion (IsRow a.engines.slots.items)) (sym c.clear.ensures.items) tt } in
    let is : answer.result ≡ Ok admitted.Record = c.in-Ok.is ∙ ap Ok c.in-Record.is in
    let fed = c.in_ok-fed-in-Record.fed in
    let takes = c.in_ok-fed-in-Record.ensures.takes p sound.lawful ready in
    let news = c.take_record.new.self.slots.items in
    subst (λ (t : State). IsSelected t (by_number (length t.program.header.schema.keys) c.args.part e) fed.selected) c.self.view_is
    (record_selects p sound.lawful sound.panes sound.keyless a.front answer.new.self a.engines.slots.items news a.fed c.saturating_add-self-inside.result a.fired c.saturating_add-self-inside-in-Record.result s.rows
    (map (row_at (length p.header.schema.keys) news) c.take_record.new.self.order.items) c.args.part e place answer.result decided answer.ensures.state c.saturating_add-self-inside.ensures
    is c.deref.result.now (c.deref.ensures.value ∙ sound.marks) fed.fired c.saturating_add-self-inside-in-Record.ensures
    takes.one takes.others (ap (λ (ps : List RowPlace). map (row_at (length p.header.schema.keys) news) ps) takes.rows)
    fed.selected (c.in_ok-fed-in-Record.ensures.selects p sound.lawful ready))

pub returns-in_ok-fired-in-Watermark-clause-selected : goal.returns-in_ok-fired-in-Watermark-clause-selected
returns-in_ok-fired-in-Watermark-clause-selected c =
    let a = c.self.inside in
    let sound = c.self.invariant in
    let p : Program = a.program in
    let e : Event = event_of c.args.event.now in
    let s : State = state_of a in
    let place : IsPlaced (length p.header.schema.keys) e = subst (λ (t : State). IsPlaced (length t.program.header.schema.keys) e) (sym c.self.view_is) c.requires.placed in
    let answer = c.decide_judged-answer in
    let decided : answer.result ≡ decision p.header.shape p.header.schema a.front e = answer.ensures.decision ∙ ap (λ (h : Header). decision h.shape h.schema a.front e) c.header-header.ensures.header in
    let takes = c.in_ok-fired-in-Watermark.ensures.takes in
    let is : answer.result ≡ Ok (admitted.Watermark c.in-Watermark.old c.in-Watermark.new) = c.in-Ok.is ∙ ap Ok c.in-Watermark.is in
    let news = c.take_watermark.new.self.slots.items in
    subst (λ (t : State). IsSelected t (by_number (length t.program.header.schema.keys) c.args.part e) false) c.self.view_is
    (watermark_selects p sound.lawful sound.panes sound.keyless a.front answer.new.self a.engines.slots.items news a.fed c.saturating_add-self-inside.result a.fired c.saturating_add-self-inside-in-Watermark.result s.rows
    (map (row_at (length p.header.schema.keys) news) c.take_watermark.new.self.order.items) c.args.part e place answer.result decided answer.ensures.state c.saturating_add-self-inside.ensures
    c.in-Watermark.old c.in-Watermark.new is sound.engines.of c.in_ok-fired-in-Watermark.fired
    c.saturating_add-self-inside-in-Watermark.ensures takes.all (ap (λ (ps : List RowPlace). map (row_at (length p.header.schema.keys) news) ps) takes.rows))

pub returns-in-Err-clause-selected : goal.returns-in-Err-clause-selected
returns-in-Err-clause-selected c =
    let a = c.self.inside in
    let sound = c.self.invariant in
    let p : Program = a.program in
    let e : Event = event_of c.args.event.now in
    let s : State = state_of a in
    let place : IsPlaced (length p.header.schema.keys) e = subst (λ (t : State). IsPlaced (length t.program.header.schema.keys) e) (sym c.self.view_is) c.requires.placed in
    let answer = c.decide_judged-answer in
    let decided : answer.result ≡ decision p.header.shape p.header.schema a.front e = answer.ensures.decision ∙ ap (λ (h : Header). decision h.shape h.schema a.front e) c.header-header.ensures.header in
    let news = a.engines.slots.items in
    subst (λ (t : State). IsSelected t (by_number (length t.program.header.schema.keys) c.args.part e) false) c.self.view_is
    (refused_selects p sound.lawful sound.panes sound.keyless a.front answer.new.self a.engines.slots.items news a.fed c.saturating_add-self-inside.result a.fired a.fired s.rows
    (map (row_at (length p.header.schema.keys) news) c.clear.new.self.items) c.args.part e place answer.result decided answer.ensures.state c.saturating_add-self-inside.ensures
    c.in-Err.refusal c.in-Err.is)
