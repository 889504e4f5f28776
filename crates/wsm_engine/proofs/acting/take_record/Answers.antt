use Rattle.std.proofs.Common.{rules, ◌≡◌, ◌≤◌, ◌+◌, ◌++◌, ◌∙◌, Bool, true, cond, [], SFits, w64, to_z-of_z, length, sym, ap, arith}
use Rattle.std.proofs.lemmas.Bool.{not-false}
use Rattle.wsm_semantics.specs.Replay.{datum}
use Rattle.wsm_semantics.specs.HeldBounds.{rows_of_panes, most_panes}
use Rattle.wsm_semantics.specs.Summaries.{all_fired, entered, kind_by_record, after_record, fired_by_record, withdrawn_by_record, withdrawn_entering}
use Rattle.wsm_machine.specs.Meaning.{plan_of, query_of, selects, where_run}
use Rattle.wsm_machine.proofs.RunAnswers.{keeps_is}
use Rattle.wsm_panes.specs.Held.{entries_of}
use Rattle.wsm_firing.specs.Tally.{tally_of}
use Rattle.wsm_firing.specs.Firing.{turn_rows}
use Rattle.wsm_firing.specs.ByRecord.{fires_by_record, withdrawn_of_record}
use Rattle.wsm_engine.specs.Operator.{entering_cost, rows_with, last_relation}
use Rattle.wsm_engine.proofs.RecordsByPlan.{after_same, fires_same, withdrawn_same}
use Rattle.wsm_engine.proofs.HeldByHistory.{Panes}
use Rattle.wsm_firing.specs.Streams.{IsTold, standing_rows}
use Rattle.wsm_engine.proofs.Told.{last_is, are_told, can_tell, of_next, ready_of, alike_on}
use Rattle.wsm_engine.proofs.OperatorEvents.{can_fire, cost_stated, few_entered}
use Rattle.wsm_engine.proofs.acting.take_record.Goals as goal

pub fire_by_record-tally-requires-clause-can : goal.fire_by_record-tally-requires-clause-can
fire_by_record-tally-requires-clause-can c =
    let p = c.args.verified.now in
    let past = c.requires.comes.0 in
    let comes = c.requires.comes.1 in
    let mark : SFits w64 c.args.arrival.mark = search rules in
    let time : SFits w64 c.args.arrival.time = search rules in
    let chosen : selects p c.args.arrival.key c.args.values.now ≡ true = keeps_is p c.args.arrival.key c.args.values.now c.keep-kept.result.keeps c.keep-kept.ensures.done c.keep-kept.ensures.keeps ∙ not-false _ c.if-not-kept.false in
    let room : length c.enter_record-steps.new.operator.state.rows.written + rows_of_panes p.header.mode (length (entries_of c.enter_record-steps.new.operator.state.held)) ≤ c.enter_record-steps.new.operator.state.rows.room = omega (arith, c.enter_record-steps.ensures.few, c.enter_record-steps.ensures.room, c.requires.program.rows) in
    (can_fire p past c.args.operator.now c.requires.program c.args.arrival.mark c.args.arrival.key c.args.arrival.time c.args.values.now comes chosen _ _ c.enter_record-steps.result.1 (entries_of c.enter_record-steps.new.operator.state.held)
    room (simp to_z-of_z at c.enter_record-steps.ensures.alone) (simp to_z-of_z at c.enter_record-steps.ensures.panes))

pub overflow_add-result : goal.overflow_add-result
overflow_add-result c =
    let p = c.args.verified.now in
    let chosen : selects p c.args.arrival.key c.args.values.now ≡ true = keeps_is p c.args.arrival.key c.args.values.now c.keep-kept.result.keeps c.keep-kept.ensures.done c.keep-kept.ensures.keeps ∙ not-false _ c.if-not-kept.false in
    let mark : SFits w64 c.args.arrival.mark = search rules in
    let most = cost_stated p c.requires.comes.0 c.args.operator.now c.requires.program c.args.arrival.mark c.args.arrival.key c.args.arrival.time c.args.values.now c.requires.comes.1 chosen in
    let mark : SFits w64 c.args.arrival.mark = search rules in
    let time : SFits w64 c.args.arrival.time = search rules in
    let kept : (where_run p c.args.arrival.key c.args.values.now).steps ≡ c.keep-kept.result.steps = c.keep-kept.ensures.steps in
    let steps : c.enter_record-steps.result.0 ≡ entering_cost p c.args.arrival.mark c.args.arrival.key c.args.arrival.time c.args.values.now (entries_of c.args.operator.now.state.held) = simp to_z-of_z at c.enter_record-steps.ensures.steps in
    omega (arith, most, kept, steps)

pub fire_by_record-tally-requires-clause-ready : goal.fire_by_record-tally-requires-clause-ready
fire_by_record-tally-requires-clause-ready c =
    let p = c.args.verified.now in let of = c.requires.program in
    let mark : SFits w64 c.args.arrival.mark = search rules in
    let time : SFits w64 c.args.arrival.time = search rules in
    let chosen : selects p c.args.arrival.key c.args.values.now ≡ true = keeps_is p c.args.arrival.key c.args.values.now c.keep-kept.result.keeps c.keep-kept.ensures.done c.keep-kept.ensures.keeps ∙ not-false _ c.if-not-kept.false in
    let s = c.args.operator.now.state.streams in let t = c.enter_record-steps.new.operator.state.streams in
    let es = entries_of c.args.operator.now.state.held in let fs = entries_of c.enter_record-steps.new.operator.state.held in
    let few = few_entered p c.requires.comes.0 c.args.operator.now of c.args.arrival.mark c.args.arrival.key c.args.arrival.time c.args.values.now c.requires.comes.1 chosen fs (simp to_z-of_z at c.enter_record-steps.ensures.panes) in
    ready_of p c.args.operator.now c.enter_record-steps.new.operator.state.held t of c.enter_record-steps.ensures.keeps
    (can_tell (most_panes (query_of p)) s t es fs of.streams of.room c.enter_record-steps.ensures.alike c.enter_record-steps.ensures.told few)

pub returns : goal.returns
returns c =
    let p = c.args.verified.now in
    let mark : SFits w64 c.args.arrival.mark = search rules in
    let time : SFits w64 c.args.arrival.time = search rules in
    let chosen : selects p c.args.arrival.key c.args.values.now ≡ true = keeps_is p c.args.arrival.key c.args.values.now c.keep-kept.result.keeps c.keep-kept.ensures.done c.keep-kept.ensures.keeps ∙ not-false _ c.if-not-kept.false in
    let d = datum 0 c.args.arrival.mark c.args.arrival.key c.args.arrival.time c.args.values.now in let es = entries_of c.args.operator.now.state.held in
    let bare = datum 0 c.args.arrival.mark c.args.arrival.key c.args.arrival.time [] in
    let put_in : Panes = entered (plan_of p) p.header.shape p.header.clock.lateness d es in
    let there : entries_of c.enter_record-steps.new.operator.state.held ≡ put_in = simp to_z-of_z at c.enter_record-steps.ensures.panes in
    let kept : (where_run p c.args.arrival.key c.args.values.now).steps ≡ c.keep-kept.result.steps = c.keep-kept.ensures.steps in
    let steps : c.enter_record-steps.result.0 ≡ entering_cost p c.args.arrival.mark c.args.arrival.key c.args.arrival.time c.args.values.now (entries_of c.args.operator.now.state.held) = simp to_z-of_z at c.enter_record-steps.ensures.steps in
    let of = c.requires.program in
    let s = c.args.operator.now.state.streams in let t = c.enter_record-steps.new.operator.state.streams in let u = c.fire_by_record-tally.new.self.state.streams in let gs = entries_of c.fire_by_record-tally.new.self.state.held in
    let before = last_relation s (entries_of c.args.operator.now.state.held) in
    let told : IsTold u before (standing_rows gs) = c.fire_by_record-tally.ensures.tells.told before (c.enter_record-steps.ensures.told before of.streams.told) in
    let one = c.enter_record-steps.ensures.keeps in let two = c.fire_by_record-tally.ensures.keeps in
    record {
      program =
          of_next p c.args.operator.now _ of (record { keys = two.keys ∙ one.keys; shape = two.shape ∙ one.shape; live = two.live ∙ one.live; widths = two.widths ∙ one.widths })
          (alike_on s t u c.enter_record-steps.ensures.alike c.fire_by_record-tally.ensures.tells.alike) (c.fire_by_record-tally.ensures.room ∙ c.enter_record-steps.ensures.room)
          (are_told (most_panes (query_of p)) u gs before told of.streams.few);
      panes =
          c.fire_by_record-tally.ensures.panes
          ∙ ap (all_fired (plan_of p) (query_of p) (kind_by_record (query_of p) c.args.arrival.mark bare)) there
          ∙ after_same p c.args.arrival.mark c.args.arrival.key c.args.arrival.time c.args.values.now es
          ∙ ap (λ (b : Bool). cond b (after_record (plan_of p) (query_of p) c.args.arrival.mark d es) es) (sym chosen);
      room = c.fire_by_record-tally.ensures.room ∙ c.enter_record-steps.ensures.room;
      relation = last_is u gs before told;
      rows =
          c.fire_by_record-tally.ensures.rows (withdrawn_entering (plan_of p) p.header.shape d es) (simp to_z-of_z at c.enter_record-steps.ensures.rows)
          ∙ ap (λ (ps : Panes). turn_rows p (withdrawn_entering (plan_of p) p.header.shape d es ++ withdrawn_of_record p c.args.arrival.mark c.args.arrival.key c.args.arrival.time ps) (fires_by_record p c.args.arrival.mark c.args.arrival.key c.args.arrival.time ps)) there
          ∙ (λ i. turn_rows p (withdrawn_same p c.args.arrival.mark c.args.arrival.key c.args.arrival.time c.args.values.now es i) (fires_same p c.args.arrival.mark c.args.arrival.key c.args.arrival.time c.args.values.now es i))
          ∙ ap (λ (b : Bool). rows_with p (cond b (withdrawn_by_record (plan_of p) (query_of p) c.args.arrival.mark d es) []) (cond b (fired_by_record (plan_of p) (query_of p) c.args.arrival.mark d es) []) []) (sym chosen);
      selected = sym chosen;
      cost = λ i. sym kept i + (steps ∙ ap (λ (b : Bool). cond b (entering_cost p c.args.arrival.mark c.args.arrival.key c.args.arrival.time c.args.values.now es) 0) (sym chosen)) i;
      tally =
          c.fire_by_record-tally.ensures.tally
          ∙ ap (λ (ps : Panes). tally_of p (fires_by_record p c.args.arrival.mark c.args.arrival.key c.args.arrival.time ps)) there
          ∙ ap (tally_of p) (fires_same p c.args.arrival.mark c.args.arrival.key c.args.arrival.time c.args.values.now es)
          ∙ ap (λ (b : Bool). tally_of p (cond b (fired_by_record (plan_of p) (query_of p) c.args.arrival.mark d es) [])) (sym chosen);
    }
