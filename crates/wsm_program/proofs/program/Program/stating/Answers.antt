use Rattle.wsm_program.proofs.StatedBudget.{lawful_stating}
use Rattle.wsm_program.proofs.program.Program.stating.Goals as goal

pub of_parts-requires : goal.of_parts-requires
of_parts-requires c = lawful_stating _ _ c.self.invariant c.requires
