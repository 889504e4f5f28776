use Rattle.std.proofs.Common.{◌≡◌, ◌^◌, ◌-◌, min, take}
use Rattle.wsm_tokens.specs.Tokens.{value_of}
use Rattle.wsm_tokens.proofs.scan.value_of.Given as goal

-- the value of the digits so far, unless it is too great
abbrev pub invariant-loop-digit : goal.invariant-loop-digit
invariant-loop-digit l = l.value ≡ min (value_of (take l.digit-index l.digits)) (2 ^ 64 - 1)
