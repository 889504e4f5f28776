use Rattle.std.proofs.Common.{◌≡◌, drop}
use Rattle.wsm_description.specs.TimePart.{has_percent}
use Rattle.wsm_description.proofs.time_part.has_percent.Given as goal

abbrev pub invariant-loop-byte : goal.invariant-loop-byte
invariant-loop-byte l = has_percent (drop l.byte-index l.text) ≡ has_percent l.text
