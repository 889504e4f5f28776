use Rattle.std.proofs.Common.{◌≡◌, ◌++◌}
use Rattle.std.specs.List.{flat_map}
use Rattle.wsm_metrics.specs.Text.{label_byte}
use Rattle.wsm_metrics.proofs.text.add_word.Given as goal

-- what was added, with the bytes that are left
abbrev pub invariant-loop-byte : goal.invariant-loop-byte
invariant-loop-byte l = l.text.items ++ flat_map label_byte l.byte-iterator.rest.now ≡ l.fn.text.items ++ flat_map label_byte l.word
