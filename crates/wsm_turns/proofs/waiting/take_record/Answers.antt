use Rattle.std.proofs.Common.{ℕ, List, [], ◌∷◌, Option, Some, None, sym, subst}
use Rattle.std.proofs.lemmas.Result.{on_ok_weaker}
use Rattle.wsm_record.specs.Event.{Event, event_of}
use Rattle.wsm_watermarks.specs.declared.stamp.Stamp.{Stamp}
use Rattle.wsm_turns.specs.declared.clocks.Clocks.{Clocks}
use Rattle.wsm_turns.specs.declared.waiting.Waiting.{Waiting}
use Rattle.wsm_turns.specs.Numbered.{Numbered}
use Rattle.wsm_turns.specs.Turns.{Kept}
use Rattle.wsm_turns.specs.Waits.{Hear, Takes}
use Rattle.wsm_turns.proofs.waiting.take_record.Goals as goal

-- without clocks the record goes on
without : (clocks : Option Clocks) (count : ℕ) (k : Kept) (Took : List Numbered → Type 0) (stamp : Stamp) (number : ℕ) (e : Event) → Hear clocks count None k.stamps k.told k.waits →
    Took (record { number = number; event = e } ∷ []) → Takes clocks count k None Took stamp number e
without None count k Took stamp number e hear took = record { hears = hear; took = took }
without (Some c) count k Took stamp number e hear took = absurd hear

pub returns-in-None : goal.returns-in-None
returns-in-None g c = λ clocks count k hear clock few.
    let e = event_of c.args.event.now in
    let Took = g.T.Taker.took c.args.taker.now c.take-in-None.new.self in
    on_ok_weaker c.take-in-None.result (λ took.
    subst (λ (w : Option Waiting). Takes clocks count k w Took c.args.stamp c.args.number e) (sym c.in-None.is)
    (without clocks count k Took c.args.stamp c.args.number e (subst (λ (w : Option Waiting). Hear clocks count w k.stamps k.told k.waits) c.in-None.is hear) took))
    c.take-in-None.ensures
