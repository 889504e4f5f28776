use Rattle.wsm_follow.proofs.Places.{place_is_position, place_read}
use Rattle.wsm_follow.proofs.laws.read_back.Goals as goal

pub returns : goal.returns
returns c = record { read = place_read; position = place_is_position }
