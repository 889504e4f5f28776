use Rattle.std.proofs.Common.{◌≡◌, ◌+◌, ◌<◌, ◌∙◌, Some, get_or, pos, sym, ap, arith}
use Rattle.std.specs.Prelude.{slice_get}
use Rattle.std.proofs.lemmas.Option.{slice_get-get_or}
use Rattle.wsm_program.specs.declared.instr.Instr.TheVariants.{PushInt}
use Rattle.wsm_machine.specs.Step.{Goes, Traps, step}
use Rattle.wsm_machine.specs.declared.frame.Frame.{Frame}
use Rattle.wsm_machine.specs.declared.outcome.Outcome.TheVariants.{Done, Trap as Trapped}
use Rattle.wsm_machine.specs.Run.{run_at, ended}
use Rattle.wsm_machine.specs.Steps.{setting_of, at}
use Rattle.wsm_machine.proofs.Runs.{step_leads_on, length-folds, run_goes_on, run_ends, run_traps}
use Rattle.wsm_machine.proofs.StepAnswers.{goes_next, goes_to, ends}
use Rattle.wsm_machine.proofs.frame.Frame.run.Goals as goal

pub loop-place-preserved-in-Ok-Next : goal.loop-place-preserved-in-Ok-Next
loop-place-preserved-in-Ok-Next c =
    let setting = setting_of c.args.setting.now in
    let from = at c.loop-place.place c.loop-place.self in
    let to = at (c.loop-place.place + 1) c.step.new.self in
    let i = get_or setting.code c.loop-place.place (PushInt (pos 0)) in
    let there : slice_get setting.code c.loop-place.place ≡ Some i = slice_get-get_or setting.code c.loop-place.place (PushInt (pos 0)) c.loop-place-test.true in
    let goes : step setting from i ≡ Goes to = goes_next setting c.loop-place.place i c.loop-place.self _ c.step.new.self c.step.ensures _ c.in-Ok-Next.is c.in-Ok-Next.field-0-is in
    record {
      so_far = run_goes_on setting from to i c.loop-place.steps (run_at setting (at 0 c.args.self.now)) there goes c.loop-place.invariant.so_far;
      steps = omega (arith, c.loop-place.invariant.steps);
      folds = length-folds setting from i to goes ∙ c.loop-place.invariant.folds;
    }

pub loop-place-smaller : goal.loop-place-smaller
loop-place-smaller c =
    let setting = setting_of c.args.setting.now in
    let from = at c.loop-place.place c.loop-place.self in
    let to = at c.in-Ok-To.target c.step.new.self in
    let i = get_or setting.code c.loop-place.place (PushInt (pos 0)) in
    let goes : step setting from i ≡ Goes to = goes_to setting c.loop-place.place i c.loop-place.self _ c.step.new.self c.step.ensures _ c.in-Ok-To.is c.in-Ok-To.target c.in-Ok-To.field-0-is in
    let later : c.loop-place.place < c.in-Ok-To.target = step_leads_on setting from i to goes in
    omega (arith, later, c.loop-place-test.true)

pub loop-place-preserved : goal.loop-place-preserved
loop-place-preserved c =
    let setting = setting_of c.args.setting.now in
    let from = at c.loop-place.place c.loop-place.self in
    let to = at c.in-Ok-To.target c.step.new.self in
    let i = get_or setting.code c.loop-place.place (PushInt (pos 0)) in
    let there : slice_get setting.code c.loop-place.place ≡ Some i = slice_get-get_or setting.code c.loop-place.place (PushInt (pos 0)) c.loop-place-test.true in
    let goes : step setting from i ≡ Goes to = goes_to setting c.loop-place.place i c.loop-place.self _ c.step.new.self c.step.ensures _ c.in-Ok-To.is c.in-Ok-To.target c.in-Ok-To.field-0-is in
    let later : c.loop-place.place < c.in-Ok-To.target = step_leads_on setting from i to goes in
    record {
      so_far = run_goes_on setting from to i c.loop-place.steps (run_at setting (at 0 c.args.self.now)) there goes c.loop-place.invariant.so_far;
      steps = omega (arith, c.loop-place.invariant.steps, later);
      folds = length-folds setting from i to goes ∙ c.loop-place.invariant.folds;
    }

pub returns-in-Ok-End : goal.returns-in-Ok-End
returns-in-Ok-End c =
    let setting = setting_of c.args.setting.now in
    let from = at c.loop-place.place c.loop-place.self in
    let i = get_or setting.code c.loop-place.place (PushInt (pos 0)) in
    let there : slice_get setting.code c.loop-place.place ≡ Some i = slice_get-get_or setting.code c.loop-place.place (PushInt (pos 0)) c.loop-place-test.true in
    let ended_there = ends setting c.loop-place.place i c.loop-place.self _ c.step.new.self c.step.ensures _ c.in-Ok-End.is c.in-Ok-End.field-0-is in
    run_ends setting from i c.loop-place.steps (run_at setting (at 0 c.args.self.now)) there ended_there.0 c.loop-place.invariant.so_far
    ∙ ap (λ (m : Frame). ended Done (c.loop-place.steps + 1) (at 0 m)) (sym ended_there.1)

pub returns-in-Err : goal.returns-in-Err
returns-in-Err c =
    let setting = setting_of c.args.setting.now in
    let from = at c.loop-place.place c.loop-place.self in
    let i = get_or setting.code c.loop-place.place (PushInt (pos 0)) in
    let there : slice_get setting.code c.loop-place.place ≡ Some i = slice_get-get_or setting.code c.loop-place.place (PushInt (pos 0)) c.loop-place-test.true in
    let trapped : (step setting from i ≡ Traps c.in-Err.trap) × (c.step.new.self ≡ c.loop-place.self) = c.in-Err.ensures in
    run_traps setting from i c.in-Err.trap c.loop-place.steps (run_at setting (at 0 c.args.self.now)) there trapped.0 c.loop-place.invariant.so_far
    ∙ ap (λ (m : Frame). ended (Trapped c.in-Err.trap) (c.loop-place.steps + 1) (at 0 m)) (sym trapped.1)
