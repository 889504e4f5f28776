use Rattle.std.proofs.Common.{ℕ, List, [], Option}
use Rattle.wsm_program.specs.Program.{Program}
use Rattle.wsm_machine.specs.Meaning.{query_of}
use Rattle.wsm_csv.specs.Rows.{Follows, turns_left}
use Rattle.wsm_kept.specs.Kept.{Cells, rows_of}
use Rattle.wsm_kept.specs.Run.{Fits}
use Rattle.wsm_kept.proofs.own.take_all.Given as goal

-- the turns of these rows were taken
abbrev pub invariant-loop-run : goal.invariant-loop-run
invariant-loop-run g l = (known : Option (List ℕ)) (p : Program) → Follows g.R.Read.remaining known [] l.fn.rows → Fits p l.fn.run []
    → (cells : List Cells) × Follows g.R.Read.remaining known cells l.rows × Fits p l.run (rows_of (query_of p) cells)

abbrev pub decreases-loop-run : goal.decreases-loop-run
decreases-loop-run g l = turns_left l.rows
