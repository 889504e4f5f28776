use Rattle.wsm_row_laws.proofs.SameTurns.{are_without, ends_alike, writes_alike}
use Rattle.wsm_row_laws.proofs.laws.runs_alike.Goals as goal

pub returns-clause-turns : goal.returns-clause-turns
returns-clause-turns c = λ q before x small. writes_alike q before x small

pub returns-clause-end : goal.returns-clause-end
returns-clause-end c = λ q lines records small. ends_alike q lines records small

pub returns-clause-without : goal.returns-clause-without
returns-clause-without c = λ s d lines none. are_without s d none lines
