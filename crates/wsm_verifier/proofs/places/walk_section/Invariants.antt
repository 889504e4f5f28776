use Rattle.wsm_verifier.specs.Trying.{setting_of}
use Rattle.wsm_verifier.specs.Turning.{unfolded}
use Rattle.wsm_verifier.proofs.PlacesKept.{Walked}
use Rattle.wsm_verifier.proofs.places.walk_section.Given as goal

-- what is kept and what was found is what the visits so far come to
abbrev pub invariant-loop-place : goal.invariant-loop-place
invariant-loop-place l = Walked (setting_of l.setting) (unfolded l.accumulators l.fields) l.code l.place l.labels.items l.accumulators l.folded.items l.places.items l.end
