use Rattle.std.proofs.Common.{◌≡◌, ◌≤◌, ◌-◌, length}
use Rattle.wsm_tokens.specs.Tokens.{tokens_at}
use Rattle.wsm_tokens.proofs.reader.blanks_end.Given as goal

abbrev pub invariant-loop-offset : goal.invariant-loop-offset
invariant-loop-offset l = record {
  within : l.offset ≤ length l.text;
  same : tokens_at l.text l.offset ≡ tokens_at l.text l.from;
}

abbrev pub decreases-loop-offset : goal.decreases-loop-offset
decreases-loop-offset l = length l.text - l.offset
