use Rattle.std.proofs.Common.{◌≡◌, drop, map}
use Rattle.wsm_parts.specs.Csv.{place_from}
use Rattle.wsm_parts.proofs.texts.place_of.Given as goal

-- it is none of the texts so far
abbrev pub invariant-loop-i : goal.invariant-loop-i
invariant-loop-i l = place_from 0 l.name (map (λ v. v.items) l.texts) ≡ place_from l.i l.name (map (λ v. v.items) (drop l.i l.texts))
