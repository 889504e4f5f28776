use Rattle.std.proofs.Common.{ap, sym, ◌∙◌, None}
use Rattle.wsm_program.specs.Program.{is_budget}
use Rattle.wsm_rules.specs.Costs.{needed}
use Rattle.wsm_check.specs.Seen.{seen_parts}
use Rattle.wsm_compiler.specs.Program.{assembled, stated}
use Rattle.wsm_compiler.specs.declared.compiling.TheConstants.{LEAST}
use Rattle.wsm_compiler.proofs.AssembledProgram.{is_budget_of}
use Rattle.wsm_compiler.proofs.compiling.program_with_need.Goals as goal

pub stating_need-requires : goal.stating_need-requires
stating_need-requires c =
    let p = seen_parts c.args.checked.parts in
    let same = c.in_ok-of.ensures.kept ∙ c.in_ok-program.ensures in
    ap (λ made. is_budget (stated (needed made) None)) same ∙ ap (λ budget. is_budget (stated (needed (assembled p LEAST)) budget)) (sym c.requires) ∙ is_budget_of p c.args.checked.of_checked LEAST
