use Rattle.std.proofs.Common.{◌≡◌, drop, Some}
use Rattle.wsm_values.specs.Pattern.{is_pattern, text_behind}
use Rattle.wsm_values.proofs.pattern.is_pattern.Given as goal

-- what is left of the pattern ends as the whole
abbrev pub invariant-loop-byte : goal.invariant-loop-byte
invariant-loop-byte l = is_pattern l.pattern ≡ text_behind (Some l.spot) (drop l.byte-index l.pattern)
