use Rattle.std.proofs.Common.{◌≡◌, ap, sym, ◌∙◌, subst}
use Rattle.std.specs.Prelude.{IfOk}
use Rattle.wsm_program.specs.Program.{Program}
use Rattle.wsm_rules.specs.Costs.{needed}
use Rattle.wsm_check.specs.Seen.{seen_parts}
use Rattle.wsm_compiler.specs.Program.{assembled, stated}
use Rattle.wsm_compiler.specs.declared.compiling.TheConstants.{LEAST}
use Rattle.wsm_compiler.proofs.AssembledProgram.{compiled}
use Rattle.wsm_compiler.proofs.compiling.compile_costed.Goals as goal

pub returns-in_ok-of-in-Some : goal.returns-in_ok-of-in-Some
returns-in_ok-of-in-Some c = λ q is. c.in_ok-of-in-Some.ensures.kept ∙ c.in_ok-compile-in-Some.ensures q is

pub returns-in-None : goal.returns-in-None
returns-in-None c =
    let p = seen_parts c.args.checked.parts in
    let same = ap (λ budget. assembled p (stated (needed (assembled p LEAST)) budget)) (sym c.in-None.is) in
    λ q is. subst (λ (r : Program). IfOk c.program_with_need.result (λ made. made ≡ r)) (same ∙ compiled p LEAST q is) c.program_with_need.ensures
