use Rattle.std.proofs.Common.{◌≡◌, ◌++◌, map}
use Rattle.wsm_metrics.specs.Text.{name_byte}
use Rattle.wsm_metrics.proofs.text.add_name_bytes.Given as goal

-- what was added, with the bytes that are left
abbrev pub invariant-loop-byte : goal.invariant-loop-byte
invariant-loop-byte l = l.text.items ++ map name_byte l.byte-iterator.rest.now ≡ l.fn.text.items ++ map name_byte l.name
