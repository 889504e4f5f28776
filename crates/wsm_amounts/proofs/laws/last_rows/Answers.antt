use Rattle.wsm_amounts.proofs.LastRows as last
use Rattle.wsm_amounts.proofs.laws.last_rows.Goals as goal

pub returns : goal.returns
returns c = last.last_rows
