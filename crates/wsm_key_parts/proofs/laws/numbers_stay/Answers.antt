use Rattle.wsm_key_parts.proofs.Names as names
use Rattle.wsm_key_parts.proofs.laws.numbers_stay.Goals as goal

pub returns : goal.returns
returns c = names.numbers_stay
