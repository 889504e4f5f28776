use Rattle.wsm_watermarks.proofs.KeptRows as kept_rows
use Rattle.wsm_watermarks.proofs.laws.keeps_rows.Goals as goal

pub returns-clause-rows : goal.returns-clause-rows
returns-clause-rows g c = kept_rows.keeps_rows

pub returns-clause-waits : goal.returns-clause-waits
returns-clause-waits g c = kept_rows.waits_in_time

pub returns-clause-rising : goal.returns-clause-rising
returns-clause-rising g c = kept_rows.comings_rise
