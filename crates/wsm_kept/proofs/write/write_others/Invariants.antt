use Rattle.std.proofs.Common.{◌≡◌, ℕ, List, Option, false}
use Rattle.wsm_csv.specs.Rows.{Follows, turns_left}
use Rattle.wsm_kept.specs.Kept.{Cells}
use Rattle.wsm_kept.proofs.Written.{Goes}
use Rattle.wsm_kept.proofs.write.write_others.Given as goal

-- the rows that were read are written
abbrev pub invariant-loop-rows : goal.invariant-loop-rows
invariant-loop-rows g l = record {
  works : g.D.Device.has_failed l.out ≡ false;
  rows : (known : Option (List ℕ)) (past : List Cells) → Follows g.R.Read.remaining known past l.fn.rows → Goes g.R.Read.remaining known past (g.D.Device.taken l.fn.out) (g.D.Device.taken l.out) l.rows;
}

abbrev pub decreases-loop-rows : goal.decreases-loop-rows
decreases-loop-rows g l = turns_left l.rows
