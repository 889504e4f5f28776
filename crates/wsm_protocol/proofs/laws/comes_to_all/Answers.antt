use Rattle.wsm_protocol.proofs.Going.{nearer}
use Rattle.wsm_protocol.proofs.Still.{whole}
use Rattle.wsm_protocol.proofs.laws.comes_to_all.Goals as goal

pub returns-clause-nearer : goal.returns-clause-nearer
returns-clause-nearer c = nearer

pub returns-clause-whole : goal.returns-clause-whole
returns-clause-whole c = whole
