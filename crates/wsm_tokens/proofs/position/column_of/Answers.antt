use Rattle.wsm_tokens.proofs.Positions.{behind_last, behind_none}
use Rattle.wsm_tokens.proofs.position.column_of.Goals as goal

pub returns-in-Some-clause-bytes : goal.returns-in-Some-clause-bytes
returns-in-Some-clause-bytes c = behind_last c.args.text.now c.in-Some.end (rw c.in-Some.is at c.memrchr.ensures)

pub returns-in-None-clause-bytes : goal.returns-in-None-clause-bytes
returns-in-None-clause-bytes c = behind_none c.args.text.now (rw c.in-None.is at c.memrchr.ensures)
