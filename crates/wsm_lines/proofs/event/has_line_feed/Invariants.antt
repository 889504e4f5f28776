use Rattle.std.proofs.Common.{◌≡◌, drop}
use Rattle.wsm_lines.specs.Event.{has_line_feed}
use Rattle.wsm_lines.proofs.event.has_line_feed.Given as goal

-- there was none so far
abbrev pub invariant-loop-byte : goal.invariant-loop-byte
invariant-loop-byte l = has_line_feed l.text ≡ has_line_feed (drop l.byte-index l.text)
