-- Nothing is lost, and no lines were read yet.
use Rattle.std.proofs.Common.{◌≡◌}
use Rattle.std.specs.Io.KnownBytes.{Keeps}
use Rattle.wsm_replace.specs.Lines.{CanRead, HasNone, room, unread}
use Rattle.wsm_replace.proofs.lines.WholeLines.fill.Given as goal

abbrev pub invariant-loop : goal.invariant-loop
invariant-loop g l = HasNone l.self × Keeps (unread g.I.Read.remaining l.initial.self) (unread g.I.Read.remaining l.self)
    × (room l.self ≡ room l.initial.self) × (CanRead l.initial.self → CanRead l.self)
