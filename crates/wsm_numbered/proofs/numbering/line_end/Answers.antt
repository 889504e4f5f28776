use Rattle.wsm_numbered.proofs.Lines.{line_ends, none_ends}
use Rattle.wsm_numbered.proofs.numbering.line_end.Goals as goal

pub returns-in-Some-clause-lines : goal.returns-in-Some-clause-lines
returns-in-Some-clause-lines c = line_ends c.args.text.now c.in-Some.end c.in-Some.ensures

pub returns-in-None-clause-lines : goal.returns-in-None-clause-lines
returns-in-None-clause-lines c = none_ends c.args.text.now c.requires c.in-None.ensures
