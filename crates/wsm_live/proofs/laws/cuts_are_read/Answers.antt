use Rattle.wsm_live.proofs.HeadLemmas.{cut_read, its_name, its_own, its_rest, stays_headed}
use Rattle.wsm_live.proofs.laws.cuts_are_read.Goals as goal

pub returns-clause-row : goal.returns-clause-row
returns-clause-row c = cut_read

pub returns-clause-headed : goal.returns-clause-headed
returns-clause-headed c = stays_headed

pub returns-clause-own : goal.returns-clause-own
returns-clause-own c = its_own

pub returns-clause-behind : goal.returns-clause-behind
returns-clause-behind c = its_rest

pub returns-clause-name : goal.returns-clause-name
returns-clause-name c = its_name
