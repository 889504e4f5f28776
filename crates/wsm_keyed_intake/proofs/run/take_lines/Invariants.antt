use Rattle.std.proofs.Common.{◌≡◌, ℕ, List, [], Option, false}
use Rattle.wsm_log.specs.Lines.{Follows, turns_left}
use Rattle.wsm_keyed_intake.specs.KeyedLog.{KeyedLog}
use Rattle.wsm_keyed_intake.specs.Run.{Stands}
use Rattle.wsm_keyed_intake.specs.Turns.{Fits}
use Rattle.wsm_keyed_intake.proofs.run.take_lines.Given as goal

-- these lines were read, and the bytes of their turns taken
abbrev pub invariant-loop-intake : goal.invariant-loop-intake
invariant-loop-intake g l = record {
  works : g.D.Device.has_failed l.out ≡ false;
  turns : (known : Option (List ℕ)) (k : KeyedLog) → Follows k.source.longest g.R.Read.remaining known [] l.fn.lines → Fits k l.fn.intake [] →
      (read : List (List ℕ)) × Follows k.source.longest g.R.Read.remaining known read l.lines × Stands k read (g.D.Device.taken l.fn.out) (g.D.Device.taken l.out) l.intake;
}

abbrev pub decreases-loop-intake : goal.decreases-loop-intake
decreases-loop-intake g l = turns_left l.lines
