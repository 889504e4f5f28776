use Rattle.std.proofs.Common.{Some, ap, sym, subst, ◌∙◌, Option}
use Rattle.wsm_record.specs.Event.{event_of}
use Rattle.wsm_engine.specs.declared.reply.Reply.{Reply}
use Rattle.wsm_engine.specs.State.{State as EngineState}
use Rattle.wsm_part_engines.specs.Slots.{Feeds, Holds, selected_on}
use Rattle.wsm_part_engines.proofs.slots.feed_slot.Goals as goal

pub returns-in-Some-clause-feeds : goal.returns-in-Some-clause-feeds
returns-in-Some-clause-feeds c =
    let fed = c.feed_judged-reply.ensures in
    subst (λ (s : Option EngineState). Feeds s (Some c.feed_judged-reply.new.self) (event_of c.args.event.now) c.feed_judged-reply.result.fired) (sym c.in-Some.is) (record {
      of = λ p is. fed.program ∙ is;
      none = λ is. absurd (cc);
      fits = λ before is. fed.fits before is;
      admission = ap Some fed.admission;
      rows = λ before is. fed.rows before is;
      fired = λ before is. ap (λ (r : Reply). r.fired) (fed.reply before is);
    })

pub returns-in-Some-clause-selected : goal.returns-in-Some-clause-selected
returns-in-Some-clause-selected c = λ before holds.
    let e = event_of c.args.event.now in
    let is : Holds (Some c.in-Some.engine) before = subst (λ (s : Option EngineState). Holds s before) c.in-Some.is holds in
    ap (λ (r : Reply). r.selected) (c.feed_judged-reply.ensures.reply before is) ∙ ap (λ (s : Option EngineState). selected_on s before e) (sym c.in-Some.is)
