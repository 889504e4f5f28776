use Rattle.std.proofs.Common.{◌≡◌, drop}
use Rattle.wsm_parts.specs.Access.{place_from}
use Rattle.wsm_parts.proofs.access.place_of.Given as goal

-- it stands among the bytes that are left, if anywhere
abbrev pub invariant-loop-i : goal.invariant-loop-i
invariant-loop-i l = place_from 0 l.end l.text ≡ place_from l.i l.end (drop l.i l.text)
