use Rattle.std.proofs.Common.{[]}
use Rattle.wsm_live.proofs.LiveLemmas.{place_some}
use Rattle.wsm_live_loop.proofs.position.last_of.Goals as goal

pub returns-in-Some : goal.returns-in-Some
returns-in-Some c = place_some [] c.args.records.now _ c.in-Some.ensures.value
