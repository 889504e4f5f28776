use Rattle.std.proofs.Common.{◌≡◌, ℕ, map, take}
use Rattle.wsm_key_names.proofs.names.KeyNames.resume.Given as goal

abbrev pub invariant-loop-name : goal.invariant-loop-name
invariant-loop-name l = l.known ≡ map (λ v. v.items) (take l.name-index l.names)
