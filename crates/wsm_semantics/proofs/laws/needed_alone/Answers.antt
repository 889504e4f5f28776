use Rattle.wsm_semantics.proofs.NeededLive.{each_of_live}
use Rattle.wsm_semantics.proofs.NeededEvents.{needed_room, needed_verdict}
use Rattle.wsm_semantics.proofs.laws.needed_alone.Goals as goal

pub returns-clause-live : goal.returns-clause-live
returns-clause-live c = each_of_live

pub returns-clause-room : goal.returns-clause-room
returns-clause-room c = needed_room

pub returns-clause-verdict : goal.returns-clause-verdict
returns-clause-verdict c = needed_verdict
