use Rattle.wsm_keep.proofs.WrittenBeyond as proof
use Rattle.wsm_keep.proofs.laws.writes_beyond.Goals as goal

pub returns : goal.returns
returns c plan lawful q runs ok timely low writes past = proof.writes_beyond plan lawful q runs ok timely low writes past
