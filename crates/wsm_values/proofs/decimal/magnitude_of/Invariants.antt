use Rattle.std.proofs.Common.{◌≡◌, drop}
use Rattle.wsm_values.specs.Decimal.{run_from, magnitude_of}
use Rattle.wsm_values.proofs.decimal.magnitude_of.Given as goal

-- the bytes that are left are still to come
abbrev pub invariant-loop-byte : goal.invariant-loop-byte
invariant-loop-byte l = magnitude_of l.form l.text ≡ run_from l.form l.digits (drop l.byte-index l.text)
