use Rattle.std.proofs.Common.{◌≡◌, ◌≤◌, false}
use Rattle.wsm_log.specs.LineBuffer.{most_of, part_of}
use Rattle.wsm_log.specs.Lines.{bytes_left}
use Rattle.wsm_log.proofs.Following.{ReadsPart}
use Rattle.wsm_log.proofs.lines.Lines.advance.Given as goal

-- a beginning of the next line was read
abbrev pub invariant-loop-left : goal.invariant-loop-left
invariant-loop-left g l = record {
  most : most_of l.self.buffer ≡ most_of l.fn.self.buffer;
  turns : l.self.left ≤ l.fn.self.left;
  unended : l.self.over ≡ false;
  reads : ReadsPart (bytes_left g.R.Read.remaining l.fn.self) (bytes_left g.R.Read.remaining l.self) (most_of l.self.buffer) (part_of l.self.buffer);
}

abbrev pub decreases-loop-left : goal.decreases-loop-left
decreases-loop-left g l = l.self.left
