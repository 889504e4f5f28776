use Rattle.std.proofs.Common.{◌≡◌, map, take, length}
use Rattle.wsm_parts.specs.Csv.{picked}
use Rattle.wsm_parts.specs.Spans.{texts_of}
use Rattle.wsm_parts.proofs.texts.read_columns.Given as goal

-- the columns so far were read
abbrev pub invariant-loop-k : goal.invariant-loop-k
invariant-loop-k l = record {
  read : map (λ v. v.items) (take l.k l.texts.items) ≡ picked (take l.k l.columns) (texts_of l.line l.spans);
  count : length l.texts.items ≡ length l.columns;
}
