use Rattle.wsm_keep.proofs.OfEvents as proof
use Rattle.wsm_keep.proofs.laws.needed_stay.Goals as goal

pub returns : goal.returns
returns c q text past = proof.needed_stay q text past
