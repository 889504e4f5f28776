use Rattle.wsm_live.proofs.LiveLemmas.{place_none, place_some}
use Rattle.wsm_live.proofs.live.position_behind.Goals as goal

pub returns-in-Some : goal.returns-in-Some
returns-in-Some c = place_some c.args.first.now.position.now c.args.chunks.now _ c.in-Some.ensures.value

pub returns-in-None : goal.returns-in-None
returns-in-None c = place_none c.args.first.now.position.now c.args.chunks.now c.in-None.ensures.value
