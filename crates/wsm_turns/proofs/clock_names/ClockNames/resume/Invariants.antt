use Rattle.std.proofs.Common.{◌≡◌, ℕ, map, take}
use Rattle.wsm_turns.proofs.clock_names.ClockNames.resume.Given as goal

abbrev pub invariant-loop-name : goal.invariant-loop-name
invariant-loop-name l = l.known ≡ record { most = l.most; names = map (λ v. v.items) (take l.name-index l.names) }
