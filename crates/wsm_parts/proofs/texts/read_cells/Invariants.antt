use Rattle.std.proofs.Common.{◌≡◌, map, take, length}
use Rattle.wsm_parts.specs.Spans.{texts_of}
use Rattle.wsm_parts.proofs.texts.read_cells.Given as goal

-- the cells so far were read
abbrev pub invariant-loop-k : goal.invariant-loop-k
invariant-loop-k l = record {
  read : map (λ v. v.items) (take l.k l.texts.items) ≡ texts_of l.line (take l.k l.spans);
  count : length l.texts.items ≡ length l.spans;
}
