use Rattle.wsm_key_parts.proofs.Late.{opens_late}
use Rattle.wsm_key_parts.proofs.laws.opened_late.Goals as goal

pub returns : goal.returns
returns c q may keys none = opens_late q may.shape may.sessions may.lateness keys none may.panes may.turns
