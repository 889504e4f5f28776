use Rattle.wsm_fold.proofs.Columns.{place_by_place}
use Rattle.wsm_fold.proofs.laws.place_by_place.Goals as goal

pub returns : goal.returns
returns c = place_by_place
