use Rattle.wsm_program.specs.declared.instr.SectionId.TheVariants.{Where, Update, Fire}
use Rattle.wsm_program.proofs.Lawful.{few_instrs}
use Rattle.wsm_program.proofs.program.Program.section.Goals as goal

pub returns-in-Where-clause-most : goal.returns-in-Where-clause-most
returns-in-Where-clause-most c = rw c.deref.ensures.value (few_instrs _ Where c.self.invariant)

pub returns-in-Update-clause-most : goal.returns-in-Update-clause-most
returns-in-Update-clause-most c = rw c.deref-in-Update.ensures.value (few_instrs _ Update c.self.invariant)

pub returns-in-Fire-clause-most : goal.returns-in-Fire-clause-most
returns-in-Fire-clause-most c = rw c.deref-in-Fire.ensures.value (few_instrs _ Fire c.self.invariant)
