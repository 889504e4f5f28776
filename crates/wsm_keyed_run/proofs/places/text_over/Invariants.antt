use Rattle.std.proofs.Common.{◌≡◌}
use Rattle.wsm_keyed_run.specs.Places.{places_text}
use Rattle.wsm_keyed_run.proofs.places.text_over.Given as goal

-- the clause of the places that were gone over
abbrev pub invariant-loop-place : goal.invariant-loop-place
invariant-loop-place l = l.over.items ≡ places_text l.place
