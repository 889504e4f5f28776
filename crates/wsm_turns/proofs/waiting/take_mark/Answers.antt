use Rattle.std.proofs.Common.{ℕ, List, [], Option, Some, None, sym, subst}
use Rattle.wsm_turns.specs.declared.clocks.Clocks.{Clocks}
use Rattle.wsm_turns.specs.declared.waiting.Waiting.{Waiting}
use Rattle.wsm_turns.specs.Noted.{Notes}
use Rattle.wsm_turns.specs.Numbered.{Numbered}
use Rattle.wsm_turns.specs.Turns.{Kept}
use Rattle.wsm_turns.specs.Waits.{Hear}
use Rattle.wsm_turns.proofs.waiting.take_mark.Goals as goal

-- without clocks nothing waits
without : (clocks : Option Clocks) (count : ℕ) (k : Kept) (Took : List Numbered → Type 0) (mark number : ℕ) → Hear clocks count None k.stamps k.told k.waits → Took [] → Notes clocks count k None Took mark number
without None count k Took mark number hear took = record { hears = hear; took = took }
without (Some c) count k Took mark number hear took = absurd hear

pub returns-in-None : goal.returns-in-None
returns-in-None g c = λ clocks count k hear.
    let taker = c.args.taker.now in
    let Took = g.T.Taker.took taker taker in
    subst (λ (w : Option Waiting). Notes clocks count k w Took c.args.mark c.args.number) (sym c.in-None.is)
    (without clocks count k Took c.args.mark c.args.number (subst (λ (w : Option Waiting). Hear clocks count w k.stamps k.told k.waits) c.in-None.is hear) (g.met.T.Taker.none taker))
