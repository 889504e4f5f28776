use Rattle.std.proofs.Common.{◌≡◌, ℕ, Option, Some, None, ap, length, refl, subst}
use Rattle.wsm_turns.specs.declared.clocks.Clocks.{Clocks}
use Rattle.wsm_turns.specs.declared.heard.Heard.{Heard}
use Rattle.wsm_turns.specs.declared.waiting.Waiting.{Waiting}
use Rattle.wsm_turns.specs.Heard.{heard, heard_by}
use Rattle.wsm_turns.specs.Turns.{Kept}
use Rattle.wsm_turns.specs.Waits.{Hear, Hears}
use Rattle.wsm_turns.proofs.waiting.clocks_heard.Goals as goal

-- with clocks it is what they come to
some : (clocks : Option Clocks) (count : ℕ) (k : Kept) (w : Waiting) (h : Heard) → ((c : Clocks) → Hears c count w k.stamps k.told k.waits → h ≡ heard_by c k.stamps (length k.waits)) → Hear clocks count (Some w) k.stamps k.told k.waits → Some h ≡ heard clocks k
some None count k w h is hear = absurd hear
some (Some c) count k w h is hear = ap Some (is c hear)

none : (clocks : Option Clocks) (count : ℕ) (k : Kept) → Hear clocks count None k.stamps k.told k.waits → None ≡ heard clocks k
none None count k hear = refl
none (Some c) count k hear = absurd hear

pub returns-in-Some : goal.returns-in-Some
returns-in-Some c = λ clocks count k hear.
    some clocks count k c.in-Some.waiting c.heard.result (λ by hears. c.heard.ensures by count k hears) (subst (λ (w : Option Waiting). Hear clocks count w k.stamps k.told k.waits) c.in-Some.is hear)

pub returns-in-None : goal.returns-in-None
returns-in-None c = λ clocks count k hear.
    none clocks count k (subst (λ (w : Option Waiting). Hear clocks count w k.stamps k.told k.waits) c.in-None.is hear)
