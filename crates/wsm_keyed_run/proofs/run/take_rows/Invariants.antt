use Rattle.std.proofs.Common.{◌≡◌, ℕ, List, [], Option, false}
use Rattle.wsm_csv.specs.Rows.{Follows, turns_left}
use Rattle.wsm.specs.Written.{Cells}
use Rattle.wsm_keyed_run.specs.Keyed.{Keyed}
use Rattle.wsm_keyed_run.specs.Turns.{Fits, HasBlocks, Stands}
use Rattle.wsm_keyed_run.proofs.run.take_rows.Given as goal

-- these rows were read, and the text of their turns taken
abbrev pub invariant-loop-turns : goal.invariant-loop-turns
invariant-loop-turns g l = record {
  works : g.D.Device.has_failed l.out ≡ false;
  blocks : HasBlocks l.turns;
  turns : (known : Option (List ℕ)) (k : Keyed) → Follows g.R.Read.remaining known [] l.fn.rows → Fits k l.fn.turns [] → (cells : List Cells) × Follows g.R.Read.remaining known cells l.rows × Stands k cells (g.D.Device.taken l.fn.out) (g.D.Device.taken l.out) l.turns;
}

abbrev pub decreases-loop-turns : goal.decreases-loop-turns
decreases-loop-turns g l = turns_left l.rows
