use Rattle.std.proofs.Common.{◌≡◌, ◌++◌}
use Rattle.std.specs.List.{flat_map}
use Rattle.wsm_metrics.specs.Text.{help_byte}
use Rattle.wsm_metrics.proofs.text.add_help.Given as goal

-- what was added, with the bytes that are left
abbrev pub invariant-loop-byte : goal.invariant-loop-byte
invariant-loop-byte l = l.text.items ++ flat_map help_byte l.byte-iterator.rest.now ≡ l.fn.text.items ++ flat_map help_byte l.help
