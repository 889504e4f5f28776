use Rattle.std.proofs.Common.{◌≡◌, ℕ, List, [], Option, false}
use Rattle.wsm_program.specs.Program.{Program}
use Rattle.wsm_csv.specs.Rows.{Follows, turns_left}
use Rattle.wsm.specs.Written.{Cells}
use Rattle.wsm.specs.Turns.{Fits, Stands}
use Rattle.wsm.proofs.run.take_rows.Given as goal

-- these rows were read, and the text of their turns taken
abbrev pub invariant-loop-turns : goal.invariant-loop-turns
invariant-loop-turns g l = record {
  works : g.D.Device.has_failed l.out ≡ false;
  turns : (known : Option (List ℕ)) (p : Program) → Follows g.R.Read.remaining known [] l.fn.rows → Fits p l.fn.turns [] → (cells : List Cells) × Follows g.R.Read.remaining known cells l.rows × Stands p cells (g.D.Device.taken l.fn.out) (g.D.Device.taken l.out) l.turns;
}

abbrev pub decreases-loop-turns : goal.decreases-loop-turns
decreases-loop-turns g l = turns_left l.rows
