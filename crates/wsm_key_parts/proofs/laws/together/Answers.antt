use Rattle.wsm_key_parts.proofs.Deciding.{decides_by_places}
use Rattle.wsm_key_parts.proofs.MergedParts.{one_query}
use Rattle.wsm_key_parts.proofs.Together.{writes_together}
use Rattle.wsm_key_parts.proofs.laws.together.Goals as goal

pub returns-clause-lines : goal.returns-clause-lines
returns-clause-lines c places records q may are = writes_together places records q may.shape may.sessions may.lateness may.panes may.turns are.some are.room

pub returns-clause-query : goal.returns-clause-query
returns-clause-query c = one_query

pub returns-clause-places : goal.returns-clause-places
returns-clause-places c = decides_by_places
