use Rattle.std.proofs.Common.{ℕ, [], Option, subst}
use Rattle.wsm_turns.specs.Named.{Knows}
use Rattle.wsm_keyed_intake.proofs.intake.before_lines.Goals as goal

pub returns-clause-voices : goal.returns-clause-voices
returns-clause-voices c = subst (λ (n : Option ℕ). Knows n c.in_ok-voices.voices []) c.named_in.ensures c.in_ok-voices.ensures
