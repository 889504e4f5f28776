use Rattle.wsm_compiler.proofs.Total.{total_on_records}
use Rattle.wsm_compiler.proofs.TotalPanes.{total_on_panes}
use Rattle.wsm_compiler.proofs.laws.total_in_range.Goals as goal

pub returns-clause-records : goal.returns-clause-records
returns-clause-records c = total_on_records

pub returns-clause-panes : goal.returns-clause-panes
returns-clause-panes c = total_on_panes
