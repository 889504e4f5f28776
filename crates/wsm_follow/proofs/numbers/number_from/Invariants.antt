use Rattle.std.proofs.Common.{◌≡◌, drop}
use Rattle.wsm_follow.specs.Position.{number_from}
use Rattle.wsm_follow.proofs.numbers.number_from.Given as goal

-- the bytes that are left go on from the digits so far
abbrev pub invariant-loop-i : goal.invariant-loop-i
invariant-loop-i l = number_from l.first l.text ≡ number_from l.value (drop l.i l.text)
