use Rattle.wsm_live.proofs.ProtocolLemmas.{same_behind, same_chunk, same_cut, same_items, same_more}
use Rattle.wsm_live.proofs.laws.is_protocol.Goals as goal

pub returns-clause-behind : goal.returns-clause-behind
returns-clause-behind c = same_behind

pub returns-clause-chunk : goal.returns-clause-chunk
returns-clause-chunk c = same_chunk

pub returns-clause-more : goal.returns-clause-more
returns-clause-more c = same_more

pub returns-clause-cut : goal.returns-clause-cut
returns-clause-cut c = same_cut

pub returns-clause-items : goal.returns-clause-items
returns-clause-items c = same_items
