use Rattle.wsm_compiler.proofs.SameLines.{same_lines, text_means}
use Rattle.wsm_compiler.proofs.laws.same_lines.Goals as goal

pub returns-clause-query : goal.returns-clause-query
returns-clause-query c = same_lines

pub returns-clause-text : goal.returns-clause-text
returns-clause-text c = text_means
