use Rattle.wsm_csv.specs.Rows.{turns_left}
use Rattle.wsm_worked.proofs.rows.count.Given as goal

abbrev pub decreases-rows : goal.decreases-rows
decreases-rows g l = turns_left l.rows
