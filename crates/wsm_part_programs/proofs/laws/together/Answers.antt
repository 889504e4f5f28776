use Rattle.wsm_part_programs.proofs.Law as law
use Rattle.wsm_part_programs.proofs.laws.together.Goals as goal

pub returns-clause-lines : goal.returns-clause-lines
returns-clause-lines c = law.together

pub returns-clause-program : goal.returns-clause-program
returns-clause-program c = law.one_program
