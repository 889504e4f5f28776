use Rattle.wsm_key_parts.proofs.TakenAlone as law
use Rattle.wsm_key_parts.proofs.laws.taken_alone.Goals as goal

pub returns : goal.returns
returns c q may = law.taken_alone q may.shape may.sessions may.lateness may.panes may.turns
