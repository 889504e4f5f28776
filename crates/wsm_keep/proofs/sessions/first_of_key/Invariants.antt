use Rattle.std.proofs.Common.{◌≡◌, drop}
use Rattle.wsm_semantics.specs.FromWatermark.{unparted_time}
use Rattle.wsm_keep.proofs.sessions.first_of_key.Given as goal

-- none of the sessions so far is parted
abbrev pub invariant-loop-place : goal.invariant-loop-place
invariant-loop-place l = unparted_time l.parting.gap l.parting.time (drop l.place l.sessions.windows) ≡ unparted_time l.parting.gap l.parting.time l.sessions.windows
