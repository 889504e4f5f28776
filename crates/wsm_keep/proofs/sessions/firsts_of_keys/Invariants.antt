use Rattle.std.proofs.Common.{◌≡◌, ◌-ℤ◌, pos, map, take}
use Rattle.wsm_semantics.specs.FromWatermark.{unparted_time}
use Rattle.wsm_keep.proofs.sessions.firsts_of_keys.Given as goal

abbrev pub invariant-loop-sessions : goal.invariant-loop-sessions
invariant-loop-sessions l = map (λ first. first -ℤ pos 1) l.each.items ≡ map (λ s. unparted_time l.parting.gap l.parting.time s.windows) (take l.sessions-index l.keys)
