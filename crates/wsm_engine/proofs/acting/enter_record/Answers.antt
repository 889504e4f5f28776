use Rattle.std.proofs.Common.{◌≡◌, ◌∙◌, [], Option, pos, subst, cond, length, refl, SFits, w64, to_z-of_z, sym, ap, arith}
use Rattle.wsm_program.specs.Program.{Header}
use Rattle.wsm_machine.specs.Meaning.{updated, query_of, plan_of}
use Rattle.wsm_machine.proofs.RunAnswers.{updated_is}
use Rattle.wsm_windows.specs.declared.window.Shape.{Shape}
use Rattle.wsm_windows.specs.declared.window.Window.{Window}
use Rattle.wsm_panes.specs.Entered.{IsToldAlone}
use Rattle.wsm_panes.specs.Held.{entries_of, session_entered}
use Rattle.wsm_semantics.specs.HeldBounds.{most_panes}
use Rattle.wsm_semantics.specs.Retractions.{retracted_in}
use Rattle.wsm_semantics.specs.Summaries.{withdrawn_entering}
use Rattle.wsm_semantics.specs.Replay.{datum}
use Rattle.wsm_engine.proofs.Firings.{rows_some}
use Rattle.wsm_engine.proofs.Told.{can_tell, same_alike}
use Rattle.wsm_engine.proofs.OperatorEvents.{enters, entered_is, cost_is, cost_stated, few_entered, held_within}
use Rattle.wsm_engine.proofs.acting.enter_record.Goals as goal
use Rattle.wsm_engine.proofs.acting.enter_record.Goals.{After-update-updated}

-- UPDATE gave what the record is folded by
given : (c : After-update-updated) → updated c.args.verified.now c.args.inputs.now.key c.args.inputs.now.values.now ≡ c.update-updated.result.values.now
given c = updated_is c.args.verified.now c.args.inputs.now.key c.args.inputs.now.values.now c.update-updated.result.values.now (rw c.requires.record at c.update-updated.ensures.folds)

pub enter-entered-requires-clause-can : goal.enter-entered-requires-clause-can
enter-entered-requires-clause-can c =
    let p = c.args.verified.now in
    let comes = c.requires.comes in
    let mark : SFits w64 c.args.mark = c.ranges.mark in
    let time : SFits w64 c.args.time = c.ranges.time in
    simp to_z-of_z (enters p comes.0 c.args.operator.now c.requires.program c.args.mark c.args.inputs.now.key c.args.time c.args.inputs.now.values.now comes.1 c.requires.selected p.header.kinds c.update-updated.result.values.now refl (given (goal.at.enter-entered-requires-clause-can c).After-update-updated))

pub enter-entered-requires-clause-room : goal.enter-entered-requires-clause-room
enter-entered-requires-clause-room c =
    let p = c.args.verified.now in let of = c.requires.program in let comes = c.requires.comes in
    let few = held_within p comes.0 c.args.operator.now of c.args.mark _ _ comes.1 in
    let some = rows_some p.header.mode (most_panes (query_of p)) in
    omega (arith, few, some, of.rows)

pub enter-entered-requires-clause-tells : goal.enter-entered-requires-clause-tells
enter-entered-requires-clause-tells c =
    let p = c.args.verified.now in let of = c.requires.program in let comes = c.requires.comes in
    let s = c.args.operator.now.state.streams in let es = entries_of c.args.operator.now.state.held in
    let few = held_within p comes.0 c.args.operator.now of c.args.mark _ _ comes.1 in
    can_tell (most_panes (query_of p)) s s es es of.streams of.room (same_alike s) (λ relation told. told) few

pub overflow_mul-result : goal.overflow_mul-result
overflow_mul-result c =
    let p = c.args.verified.now in
    let comes = c.requires.comes in
    let mark : SFits w64 c.args.mark = c.ranges.mark in
    let time : SFits w64 c.args.time = c.ranges.time in
    let cost = cost_is p comes.0 c.args.operator.now c.requires.program c.args.mark c.args.inputs.now.key c.args.time c.args.inputs.now.values.now comes.1 c.requires.selected
    c.enter-entered.result.windows c.update-updated.result.steps (cond c.enter-entered.result.joined (length p.header.kinds) 0) c.enter-entered.result.joined p.header.kinds
    (simp to_z-of_z at c.enter-entered.ensures.windows) (rw c.requires.record at c.update-updated.ensures.steps) (simp to_z-of_z at c.enter-entered.ensures.joined) refl refl in
    let most = cost_stated p comes.0 c.args.operator.now c.requires.program c.args.mark c.args.inputs.now.key c.args.time c.args.inputs.now.values.now comes.1 c.requires.selected in
    omega (arith, cost, most)

pub overflow_add-result : goal.overflow_add-result
overflow_add-result c =
    let p = c.args.verified.now in
    let comes = c.requires.comes in
    let mark : SFits w64 c.args.mark = c.ranges.mark in
    let time : SFits w64 c.args.time = c.ranges.time in
    let kinds : p.header.kinds ≡ c.deref.result.now = sym (ap (λ (h : Header). h.kinds) (c.header.ensures.header ∙ ap (λ q. q.header) c.program.ensures.program)) ∙ sym c.deref.ensures.value in
    let cost = cost_is p comes.0 c.args.operator.now c.requires.program c.args.mark c.args.inputs.now.key c.args.time c.args.inputs.now.values.now comes.1 c.requires.selected
    c.enter-entered.result.windows c.update-updated.result.steps c.join_steps.result c.enter-entered.result.joined c.deref.result.now
    (simp to_z-of_z at c.enter-entered.ensures.windows) (rw c.requires.record at c.update-updated.ensures.steps) (simp to_z-of_z at c.enter-entered.ensures.joined) kinds c.join_steps.ensures in
    let most = cost_stated p comes.0 c.args.operator.now c.requires.program c.args.mark c.args.inputs.now.key c.args.time c.args.inputs.now.values.now comes.1 c.requires.selected in
    omega (arith, cost, most)

pub returns-clause-panes : goal.returns-clause-panes
returns-clause-panes c =
    let p = c.args.verified.now in
    let comes = c.requires.comes in
    let mark : SFits w64 c.args.mark = c.ranges.mark in
    let time : SFits w64 c.args.time = c.ranges.time in
    (simp to_z-of_z at c.enter-entered.ensures.panes)
    ∙ entered_is p comes.0 c.args.operator.now c.requires.program c.args.mark c.args.inputs.now.key c.args.time c.args.inputs.now.values.now comes.1 c.requires.selected p.header.kinds c.update-updated.result.values.now refl (given (goal.at.returns-clause-panes c).After-update-updated)

pub returns-clause-rows : goal.returns-clause-rows
returns-clause-rows c =
    let p = c.args.verified.now in
    let mark : SFits w64 c.args.mark = c.ranges.mark in
    let time : SFits w64 c.args.time = c.ranges.time in
    (simp to_z-of_z at (c.enter-entered.ensures.rows (plan_of p) c.args.mark c.args.inputs.now.values.now))
    ∙ (λ i. retracted_in p.header.mode (withdrawn_entering (plan_of p) (c.requires.program.shape i) (datum 0 c.args.mark c.args.inputs.now.key c.args.time c.args.inputs.now.values.now) (entries_of c.args.operator.now.state.held)))

pub returns-clause-few : goal.returns-clause-few
returns-clause-few c =
    let p = c.args.verified.now in let of = c.requires.program in let comes = c.requires.comes in
    let mark : SFits w64 c.args.mark = c.ranges.mark in
    let time : SFits w64 c.args.time = c.ranges.time in
    let panes =
    (simp to_z-of_z at c.enter-entered.ensures.panes)
    ∙ entered_is p comes.0 c.args.operator.now of c.args.mark c.args.inputs.now.key c.args.time c.args.inputs.now.values.now comes.1 c.requires.selected p.header.kinds c.update-updated.result.values.now refl (given (goal.at.returns-clause-few c).After-update-updated) in
    c.enter-entered.ensures.few (most_panes (query_of p)) (held_within p comes.0 c.args.operator.now of c.args.mark _ _ comes.1)
    (few_entered p comes.0 c.args.operator.now of c.args.mark c.args.inputs.now.key c.args.time c.args.inputs.now.values.now comes.1 c.requires.selected (entries_of c.enter-entered.new.self.held) panes)

pub returns-clause-steps : goal.returns-clause-steps
returns-clause-steps c =
    let p = c.args.verified.now in
    let comes = c.requires.comes in
    let mark : SFits w64 c.args.mark = c.ranges.mark in
    let time : SFits w64 c.args.time = c.ranges.time in
    let kinds : p.header.kinds ≡ c.deref.result.now = sym (ap (λ (h : Header). h.kinds) (c.header.ensures.header ∙ ap (λ q. q.header) c.program.ensures.program)) ∙ sym c.deref.ensures.value in
    cost_is p comes.0 c.args.operator.now c.requires.program c.args.mark c.args.inputs.now.key c.args.time c.args.inputs.now.values.now comes.1 c.requires.selected
    c.enter-entered.result.windows c.update-updated.result.steps c.join_steps.result c.enter-entered.result.joined c.deref.result.now
    (simp to_z-of_z at c.enter-entered.ensures.windows) (rw c.requires.record at c.update-updated.ensures.steps) (simp to_z-of_z at c.enter-entered.ensures.joined) kinds c.join_steps.ensures

pub returns-clause-alone : goal.returns-clause-alone
returns-clause-alone c =
    let p = c.args.verified.now in let held = c.args.operator.now.state.held in
    let mark : SFits w64 c.args.mark = c.ranges.mark in
    let time : SFits w64 c.args.time = c.ranges.time in
    let alone = c.enter-entered.result.alone in
    let session : c.enter-entered.result.session ≡ session_entered held.shape (datum 0 (pos 0) c.args.inputs.now.key c.args.time []) (entries_of held) = simp to_z-of_z at c.enter-entered.ensures.session in
    let told : IsToldAlone held.shape c.args.time p.header.clock.lateness c.args.mark c.enter-entered.result.session alone = simp to_z-of_z at c.enter-entered.ensures.alone in
    subst (λ (shape : Shape). IsToldAlone shape c.args.time p.header.clock.lateness c.args.mark (session_entered shape (datum 0 (pos 0) c.args.inputs.now.key c.args.time []) (entries_of held)) alone) c.requires.program.shape
    (subst (λ (window : Option Window). IsToldAlone held.shape c.args.time p.header.clock.lateness c.args.mark window alone) session told)
