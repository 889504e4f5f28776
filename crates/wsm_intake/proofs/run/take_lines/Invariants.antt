use Rattle.std.proofs.Common.{◌≡◌, ℕ, List, [], Option, false}
use Rattle.wsm_program.specs.Program.{Program}
use Rattle.wsm_turns.specs.declared.clocks.Clocks.{Clocks}
use Rattle.wsm_lines.specs.declared.source.Source.{Source}
use Rattle.wsm_log.specs.Lines.{Follows, turns_left}
use Rattle.wsm_intake.specs.Run.{Stands}
use Rattle.wsm_intake.specs.Turns.{Fits}
use Rattle.wsm_intake.proofs.run.take_lines.Given as goal

-- these lines were read, and the bytes of their turns taken
abbrev pub invariant-loop-intake : goal.invariant-loop-intake
invariant-loop-intake g l = record {
  works : g.D.Device.has_failed l.out ≡ false;
  turns : (known : Option (List ℕ)) (s : Source) (clocks : Option Clocks) (p : Program) → Follows s.longest g.R.Read.remaining known [] l.fn.lines → Fits s clocks p l.fn.intake [] →
      (read : List (List ℕ)) × Follows s.longest g.R.Read.remaining known read l.lines × Stands s clocks p read (g.D.Device.taken l.fn.out) (g.D.Device.taken l.out) l.intake;
}

abbrev pub decreases-loop-intake : goal.decreases-loop-intake
decreases-loop-intake g l = turns_left l.lines
