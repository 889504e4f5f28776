-- What a step of the code says of the definition's, by what it answered.
use Rattle.std.proofs.Common.{◌≡◌, ◌∙◌, ℕ, ◌+◌, Result, Ok, subst, ap}
use Rattle.wsm_program.specs.declared.instr.Instr.{Instr}
use Rattle.wsm_machine.specs.declared.frame.Frame.{Frame}
use Rattle.wsm_machine.specs.declared.frame.Flow.{Flow}
use Rattle.wsm_machine.specs.declared.frame.Flow.TheVariants.{Next, To, End}
use Rattle.wsm_machine.specs.declared.outcome.Trap.{Trap}
use Rattle.wsm_machine.specs.Step.{Setting, Goes, Ends, step}
use Rattle.wsm_machine.specs.Steps.{Steps, at}

module _ (c : Setting) (place : ℕ) (i : Instr) (old : Frame) (r : Result Flow Trap) (new : Frame) (steps : Steps c place i old r new) (flow : Flow) (is : r ≡ Ok flow) where
  answered : (g : Flow) → flow ≡ g → Steps c place i old (Ok g) new
  answered g e = subst (λ (q : Result Flow Trap). Steps c place i old q new) (is ∙ ap Ok e) steps

  pub goes_next : flow ≡ Next → step c (at place old) i ≡ Goes (at (place + 1) new)
  goes_next e = answered Next e

  pub goes_to : (target : ℕ) → flow ≡ To target → step c (at place old) i ≡ Goes (at target new)
  goes_to target e = answered (To target) e

  pub ends : flow ≡ End → (step c (at place old) i ≡ Ends) × (new ≡ old)
  ends e = answered End e
