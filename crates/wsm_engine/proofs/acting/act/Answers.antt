use Rattle.std.proofs.Common.{rules, ◌≡◌, ◌∙◌, Some, Ok, SFits, w64, to_z-of_z, ap}
use Rattle.wsm_record.specs.Event.{Record, event_of}
use Rattle.wsm_admission.specs.declared.verdict.Admitted.TheVariants as admitted
use Rattle.wsm_firing.specs.Tally.{tally_of}
use Rattle.wsm_engine.proofs.Actions.{panes_record, fired_record, rows_record, panes_mark, fired_mark, relation_mark, rows_mark}
use Rattle.wsm_engine.proofs.OperatorEvents.{key_fits, time_fits, mark_fits, old_fits, comes_with, comes_at}
use Rattle.wsm_engine.proofs.acting.act.Goals as goal

pub overflow_cast-arrival : goal.overflow_cast-arrival
overflow_cast-arrival c =
    let h = c.in-Record-Some-default-default in
    let is : c.args.answer ≡ Ok admitted.Record = search rules in
    let ev : event_of c.args.event.now ≡ Record (Some h.key) h.time h.values.items = search rules in
    key_fits c.args.verified.now c.requires.comes.0 c.args.operator.now c.requires.program c.args.mark h.key h.time h.values.items c.args.answer (event_of c.args.event.now) c.requires.comes.1 is ev

pub take_record-requires-clause-comes : goal.take_record-requires-clause-comes
take_record-requires-clause-comes c =
    let h = c.in-Record-Some-default-default in
    let is : c.args.answer ≡ Ok admitted.Record = search rules in
    let ev : event_of c.args.event.now ≡ Record (Some h.key) h.time h.values.items = search rules in
    let mark : SFits w64 c.args.mark = c.ranges.mark in
    let all = comes_with c.args.verified.now c.requires.comes.0 c.args.operator.now.state.held c.args.mark c.args.answer (event_of c.args.event.now) c.requires.comes.1 (Some h.key) h.time h.values.items is ev in
    let time : SFits w64 h.time = time_fits c.args.verified.now c.requires.comes.0 c.args.operator.now c.requires.program c.args.mark h.key h.time h.values.items c.args.answer (event_of c.args.event.now) c.requires.comes.1 is ev in
    (c.requires.comes.0, rw c.deref.ensures.value (simp to_z-of_z all))

pub take_watermark-requires-clause-comes : goal.take_watermark-requires-clause-comes
take_watermark-requires-clause-comes c =
    let h = c.in-Ok-Watermark in
    let p = c.args.verified.now in
    let is : c.args.answer ≡ Ok (admitted.Watermark h.old h.new) = search rules in
    let all = comes_at p c.requires.comes.0 c.args.operator.now.state.held c.args.mark c.args.answer (event_of c.args.event.now) c.requires.comes.1 h.old h.new is in
    let new : SFits w64 h.new = mark_fits p c.requires.comes.0 c.args.operator.now c.args.mark c.args.answer (event_of c.args.event.now) c.requires.comes.1 c.requires.program h.old h.new is in
    let old : SFits w64 h.old = old_fits p c.requires.comes.0 c.args.operator.now.state.held c.args.mark c.args.answer (event_of c.args.event.now) c.requires.comes.1 h.old h.new is c.ranges.mark in
    (c.requires.comes.0, all.0, all.1, simp to_z-of_z all.2)

pub returns-in-Record-Some-default-default : goal.returns-in-Record-Some-default-default
returns-in-Record-Some-default-default c =
    let h = c.in-Record-Some-default-default in
    let p = c.args.verified.now in
    let answer = c.args.answer in let event = event_of c.args.event.now in
    let is : answer ≡ Ok admitted.Record = search rules in
    let ev : event ≡ Record (Some h.key) h.time h.values.items = search rules in
    let mark : SFits w64 c.args.mark = c.ranges.mark in
    let time : SFits w64 h.time = time_fits p c.requires.comes.0 c.args.operator.now c.requires.program c.args.mark h.key h.time h.values.items answer event c.requires.comes.1 is ev in
    record {
      program = c.take_record.ensures.program;
      room = c.take_record.ensures.room;
      panes = λ s at. (simp to_z-of_z at (rw c.deref.ensures.value at c.take_record.ensures.panes)) ∙ panes_record p c.args.operator.now c.args.mark s at answer event h.key h.time h.values.items is ev;
      relation = λ s at. search rules;
      rows = λ s at. (simp to_z-of_z at (rw c.deref.ensures.value at c.take_record.ensures.rows)) ∙ rows_record p c.args.operator.now c.args.mark s at answer event h.key h.time h.values.items is ev;
      selected = search rules;
      cost = λ s at. search rules;
      tally = λ s at. (simp to_z-of_z at (rw c.deref.ensures.value at c.take_record.ensures.tally)) ∙ ap (tally_of p) (fired_record p c.args.operator.now c.args.mark s at answer event h.key h.time h.values.items is ev);
    }

pub returns-in-Ok-Watermark : goal.returns-in-Ok-Watermark
returns-in-Ok-Watermark c =
    let h = c.in-Ok-Watermark in
    let p = c.args.verified.now in
    let answer = c.args.answer in let event = event_of c.args.event.now in
    let is : answer ≡ Ok (admitted.Watermark h.old h.new) = search rules in
    let new : SFits w64 h.new = mark_fits p c.requires.comes.0 c.args.operator.now c.args.mark answer event c.requires.comes.1 c.requires.program h.old h.new is in
    let old : SFits w64 h.old = old_fits p c.requires.comes.0 c.args.operator.now.state.held c.args.mark answer event c.requires.comes.1 h.old h.new is c.ranges.mark in
    record {
      program = c.take_watermark.ensures.program;
      room = c.take_watermark.ensures.room;
      panes = λ s at. (simp to_z-of_z at c.take_watermark.ensures.panes) ∙ panes_mark p c.args.operator.now c.args.mark s at answer event h.old h.new is;
      relation = λ s at. (simp to_z-of_z at c.take_watermark.ensures.relation) ∙ relation_mark p c.args.operator.now c.args.mark s at answer event h.old h.new is;
      rows = λ s at. (simp to_z-of_z at c.take_watermark.ensures.rows) ∙ rows_mark p c.args.operator.now c.args.mark s at answer event h.old h.new is;
      selected = search rules;
      cost = λ s at. search rules;
      tally = λ s at. (simp to_z-of_z at c.take_watermark.ensures.tally) ∙ ap (tally_of p) (fired_mark p c.args.operator.now c.args.mark s at answer event h.old h.new is);
    }
