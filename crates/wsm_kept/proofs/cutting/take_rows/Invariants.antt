use Rattle.std.proofs.Common.{◌≡◌, ℕ, List, [], Option}
use Rattle.wsm_program.specs.Program.{Program}
use Rattle.wsm_csv.specs.Rows.{Follows, turns_left}
use Rattle.wsm_kept.specs.Kept.{Cells}
use Rattle.wsm_cut.specs.Cutter.{IsReady}
use Rattle.wsm_kept.specs.Pass.{Fits}
use Rattle.wsm_kept.proofs.cutting.take_rows.Given as goal

-- the rows that were read are cut
abbrev pub invariant-loop-pass : goal.invariant-loop-pass
invariant-loop-pass g l = record {
  asked : l.pass.asked ≡ l.fn.pass.asked;
  ready : IsReady l.pass.cutter;
  passes : (known : Option (List ℕ)) (p : Program) → Follows g.R.Read.remaining known [] l.fn.rows → Fits p l.fn.pass [] → (past : List Cells) × Follows g.R.Read.remaining known past l.rows × Fits p l.pass past;
}

abbrev pub decreases-loop-pass : goal.decreases-loop-pass
decreases-loop-pass g l = turns_left l.rows
