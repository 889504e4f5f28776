use Rattle.std.proofs.Common.{◌≡◌, ◌-◌, ℕ, List}
use Rattle.wsm_bytecode.specs.Steps.{Read, several}
use Rattle.wsm_bytecode.specs.Reading.{Gives}
use Rattle.wsm_bytecode.proofs.Loop.{with_front}
use Rattle.wsm_bytecode.proofs.reading.numbers.several_of.Given as goal

abbrev pub invariant-loop : goal.invariant-loop
invariant-loop g l = (one : List ℕ → Read g.row.T.Denot) → ((front : _) (r : _) → goal.F-post g l.fn.read front r → Gives (λ x. (x.0, x.1.now)) r (one front.now))
    → with_front l.values.items (several one (l.count - l.counter) l.rest) ≡ several one l.count l.bytes
