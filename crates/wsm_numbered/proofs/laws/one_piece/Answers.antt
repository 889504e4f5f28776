use Rattle.wsm_numbered.proofs.Lines.{numbered_append, sum_of_text, sum_over-append}
use Rattle.wsm_numbered.proofs.laws.one_piece.Goals as goal

pub returns-clause-lines : goal.returns-clause-lines
returns-clause-lines c = numbered_append

pub returns-clause-sums : goal.returns-clause-sums
returns-clause-sums c = sum_over-append

pub returns-clause-text : goal.returns-clause-text
returns-clause-text c = sum_of_text
