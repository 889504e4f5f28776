use Rattle.std.proofs.Common.{◌≡◌, ◌++◌, drop, false}
use Rattle.wsm_parts.specs.Csv.{unquoted_from}
use Rattle.wsm_parts.proofs.texts.add_unquoted.Given as goal

-- the text so far goes on as what is left says
abbrev pub invariant-loop-byte : goal.invariant-loop-byte
invariant-loop-byte l = l.fn.text.items ++ unquoted_from false l.bytes ≡ l.text.items ++ unquoted_from l.quote (drop l.byte-index l.bytes)
