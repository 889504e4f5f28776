use Rattle.std.proofs.Common.{◌≡◌, drop}
use Rattle.wsm_values.specs.Fraction.{point_from}
use Rattle.wsm_values.proofs.fraction.point_of.Given as goal

-- it stands among the bytes that are left, if anywhere
abbrev pub invariant-loop-i : goal.invariant-loop-i
invariant-loop-i l = point_from 0 l.text ≡ point_from l.i (drop l.i l.text)
