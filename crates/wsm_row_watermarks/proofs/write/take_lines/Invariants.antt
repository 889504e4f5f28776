use Rattle.std.proofs.Common.{◌≡◌, ℕ, List, [], Option, false}
use Rattle.wsm_log.specs.Lines.{Follows, turns_left}
use Rattle.wsm_turns.specs.Turns.{Setting}
use Rattle.wsm_row_watermarks.specs.declared.text.TheConstants.{LONGEST}
use Rattle.wsm_row_watermarks.specs.Run.{Stands}
use Rattle.wsm_row_watermarks.specs.Fits.{Fits}
use Rattle.wsm_row_watermarks.proofs.write.take_lines.Given as goal

-- these lines were read, and their rows taken
abbrev pub invariant-loop-turns : goal.invariant-loop-turns
invariant-loop-turns g l = record {
  works : g.D.Device.has_failed l.out ≡ false;
  turns : (known : Option (List ℕ)) (w : Setting) (once : Option ℕ) → Follows LONGEST g.R.Read.remaining known [] l.fn.lines → Fits w once l.fn.turns [] →
      (read : List (List ℕ)) × Follows LONGEST g.R.Read.remaining known read l.lines × Stands w once read (g.D.Device.taken l.fn.out) (g.D.Device.taken l.out) l.turns;
}

abbrev pub decreases-loop-turns : goal.decreases-loop-turns
decreases-loop-turns g l = turns_left l.lines
