use Rattle.std.proofs.Common.{◌≡◌, ap, sym, ◌∙◌, subst}
use Rattle.std.specs.Prelude.{IfOk}
use Rattle.wsm_program.specs.Program.{Program, is_budget}
use Rattle.wsm_rules.specs.Costs.{needed}
use Rattle.wsm_check.specs.Seen.{seen_parts}
use Rattle.wsm_compiler.specs.Program.{assembled, stated}
use Rattle.wsm_compiler.specs.declared.compiling.TheConstants.{LEAST}
use Rattle.wsm_compiler.proofs.AssembledProgram.{is_budget_of, compiled}
use Rattle.wsm_compiler.proofs.compiling.compile.Goals as goal

pub program-requires : goal.program-requires
program-requires c =
    let p = seen_parts c.args.checked.parts in
    let need = needed (assembled p LEAST) in
    ap is_budget (c.stated.ensures need ∙ ap (stated need) (sym c.in-Some.is)) ∙ is_budget_of p c.args.checked.of_checked LEAST

pub returns-in-Some : goal.returns-in-Some
returns-in-Some c =
    let p = seen_parts c.args.checked.parts in
    let need = needed (assembled p LEAST) in
    let same = ap (assembled p) (c.stated.ensures need ∙ ap (stated need) (sym c.in-Some.is)) in
    λ q is. subst (λ (r : Program). IfOk c.program.result (λ made. made ≡ r)) (same ∙ compiled p LEAST q is) c.program.ensures

pub returns-in_ok-program_with_need-in-None : goal.returns-in_ok-program_with_need-in-None
returns-in_ok-program_with_need-in-None c =
    let p = seen_parts c.args.checked.parts in
    let same = ap (λ budget. assembled p (stated (needed (assembled p LEAST)) budget)) (sym c.in-None.is) in
    λ q is. c.into_parts-program.ensures.program ∙ c.in_ok-program_with_need-in-None.ensures ∙ same ∙ compiled p LEAST q is
