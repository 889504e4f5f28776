-- A read that was interrupted takes nothing, and leaves the room as it was.
use Rattle.std.proofs.Common.{◌≡◌, length}
use Rattle.std.specs.Io.KnownBytes.{Keeps}
use Rattle.wsm_replace.proofs.lines.read_some.Given as goal

abbrev pub invariant-loop : goal.invariant-loop
invariant-loop g l = (length l.buf ≡ length l.initial.buf) × Keeps (g.I.Read.remaining l.initial.input) (g.I.Read.remaining l.input)
