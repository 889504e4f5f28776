use Rattle.wsm_semantics.proofs.LaterLaw.{begun_alone, begun_by_marks, followed, same_after, same_rows_after, settled_after}
use Rattle.wsm_semantics.proofs.laws.from_watermark.Goals as goal

pub returns-clause-begun : goal.returns-clause-begun
returns-clause-begun c = begun_alone

pub returns-clause-marks : goal.returns-clause-marks
returns-clause-marks c = begun_by_marks

pub returns-clause-events : goal.returns-clause-events
returns-clause-events c = followed

pub returns-clause-panes : goal.returns-clause-panes
returns-clause-panes c = same_after

pub returns-clause-rows : goal.returns-clause-rows
returns-clause-rows c = same_rows_after

pub returns-clause-settled : goal.returns-clause-settled
returns-clause-settled c = settled_after
