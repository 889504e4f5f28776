-- What left the reader is in the writer and is counted.
use Rattle.std.proofs.Common.{◌≡◌, ℕ, List, length}
use Rattle.std.specs.Io.KnownBytes.{Appends, Consumes}
use Rattle.std.specs.Io.Iter.{u64_saturate}
use Rattle.wsm_replace.proofs.lines.copied.Given as goal

abbrev pub invariant-loop : goal.invariant-loop
invariant-loop g l = (moved : List ℕ) × (l.total ≡ u64_saturate (length moved))
    × Consumes (g.I.Read.remaining l.initial.input) (g.I.Read.remaining l.input) moved
    × Appends (g.W.Write.contents l.initial.out) (g.W.Write.contents l.out) moved
