use Rattle.wsm_semantics.proofs.LaterLaw.{same_beyond, same_rows_beyond, settled_beyond}
use Rattle.wsm_semantics.proofs.LaterParts.{parted_on, over_settled, over_parts_none}
use Rattle.wsm_semantics.proofs.laws.left_out.Goals as goal

pub returns-clause-panes : goal.returns-clause-panes
returns-clause-panes c = same_beyond

pub returns-clause-rows : goal.returns-clause-rows
returns-clause-rows c = same_rows_beyond

pub returns-clause-settled : goal.returns-clause-settled
returns-clause-settled c = settled_beyond

pub returns-clause-coming : goal.returns-clause-coming
returns-clause-coming c = parted_on

pub returns-clause-times : goal.returns-clause-times
returns-clause-times c q ok past = (over_settled q ok past, over_parts_none q ok past)
