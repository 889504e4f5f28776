use Rattle.std.proofs.Common.{◌≡◌, ◌≤◌, ◌++◌, ◌∙◌, cond, List, [], length, Ok, refl, SFits, w64, to_z-of_z, sym, ap, subst, arith}
use Rattle.std.proofs.lemmas.Int.{ints, fits_signed_from_abs}
use Rattle.std.specs.Prelude.{filter_map, int_lt}
use Rattle.std.specs.List.{AllByRecursion}
use Rattle.std.specs.FinMap.Entries.{where_key}
use Rattle.wsm_record.specs.Event.{Watermark}
use Rattle.wsm_admission.specs.declared.verdict.Admitted.TheVariants as admitted
use Rattle.wsm_semantics.specs.declared.out_row.OutRow.{OutRow}
use Rattle.wsm_windows.specs.Windows.{IsPlaced}
use Rattle.wsm_windows.specs.Places.{place_cmp, window_of}
use Rattle.wsm_semantics.specs.Panes.{is_live_at}
use Rattle.wsm_semantics.specs.HeldBounds.{most_panes}
use Rattle.wsm_semantics.specs.Retractions.{retracted_in}
use Rattle.wsm_semantics.specs.Summaries.{at_watermark, kind_by_watermark, relation_of, row_of, fired_by_watermark, withdrawn_by_watermark}
use Rattle.wsm_semantics.specs.Relation.{chosen_rows, stream_rows}
use Rattle.wsm_program.specs.Program.{Program, Header}
use Rattle.wsm_rules.proofs.Lawful.{lawful}
use Rattle.wsm_machine.specs.Meaning.{plan_of, query_of}
use Rattle.wsm_panes.specs.Held.{entries_of}
use Rattle.wsm_semantics.proofs.RowsBound.{length-sorted_rows}
use Rattle.wsm_firing.specs.TurnRows.{Rows}
use Rattle.wsm_firing.specs.Streams.{CanTell, IsTold, relation_kept, standing_rows}
use Rattle.wsm_firing.proofs.StandingRows.{can_tell_on, few_rows}
use Rattle.wsm_firing.proofs.RowsByMode.{retracted_none}
use Rattle.wsm_engine.specs.Operator.{last_relation}
use Rattle.wsm_engine.proofs.Told.{last_is, are_told, alike_on, can_advance, can_go_on, can_tell, few_once, of_next, ready_of, placed_fired, same_alike}
use Rattle.wsm_engine.proofs.HeldByHistory.{Panes}
use Rattle.wsm_engine.proofs.Firings.{rows_some}
use Rattle.wsm_engine.proofs.OperatorEvents.{can_fire_at, held_within, kept_once, room_for, rows_then}
use Rattle.wsm_engine.proofs.acting.take_watermark.Goals as goal

pub fire_by_watermark-tally-requires-clause-can : goal.fire_by_watermark-tally-requires-clause-can
fire_by_watermark-tally-requires-clause-can c =
    let old : SFits w64 c.args.old = c.ranges.old in
    let new : SFits w64 c.args.new = c.ranges.new in
    simp to_z-of_z (can_fire_at c.args.verified.now c.requires.comes.0 c.args.operator.now c.requires.program c.args.old c.requires.comes.1 c.requires.comes.2 c.args.new c.requires.comes.3 _ c.requires.program.rows)

pub fire_by_watermark-tally-requires-clause-ready : goal.fire_by_watermark-tally-requires-clause-ready
fire_by_watermark-tally-requires-clause-ready c =
    let p = c.args.verified.now in let of = c.requires.program in let s = c.args.operator.now.state.streams in let es = entries_of c.args.operator.now.state.held in
    let few = held_within p c.requires.comes.0 c.args.operator.now of c.args.old (Ok (admitted.Watermark c.args.old c.args.new)) (Watermark c.requires.comes.1 c.requires.comes.2) c.requires.comes.3 in
    ready_of p c.args.operator.now c.args.operator.now.state.held s of (record { keys = refl; shape = refl; live = refl; widths = refl })
    (can_tell (most_panes (query_of p)) s s es es of.streams of.room (same_alike s) (λ relation told. told) few)

pub advance-requires-clause-told : goal.advance-requires-clause-told
advance-requires-clause-told c =
    let p = c.args.verified.now in let of = c.requires.program in let s = c.args.operator.now.state.streams in let es = entries_of c.args.operator.now.state.held in
    let few = held_within p c.requires.comes.0 c.args.operator.now of c.args.old (Ok (admitted.Watermark c.args.old c.args.new)) (Watermark c.requires.comes.1 c.requires.comes.2) c.requires.comes.3 in
    can_advance c.fire_by_watermark-tally.new.self.state.streams (entries_of c.fire_by_watermark-tally.new.self.state.held)
    (can_tell_on s c.fire_by_watermark-tally.new.self.state.streams es (entries_of c.fire_by_watermark-tally.new.self.state.held) c.fire_by_watermark-tally.ensures.tells
    (can_tell (most_panes (query_of p)) s s es es of.streams of.room (same_alike s) (λ relation told. told) few))

pub advance-requires-clause-rows : goal.advance-requires-clause-rows
advance-requires-clause-rows c =
    let p = c.args.verified.now in let of = c.requires.program in
    let old : SFits w64 c.args.old = c.ranges.old in let new : SFits w64 c.args.new = c.ranges.new in
    let tells = c.fire_by_watermark-tally.ensures.tells in
    let t = c.fire_by_watermark-tally.new.self.state.streams in
    let fired : List OutRow = retracted_in p.header.mode (withdrawn_by_watermark (query_of p) c.args.old c.args.new (entries_of c.args.operator.now.state.held)) ++ filter_map (row_of (plan_of p)) (fired_by_watermark (plan_of p) (query_of p) c.args.old c.args.new (entries_of c.args.operator.now.state.held)) in
    let some = rows_some p.header.mode (most_panes (query_of p)) in
    room_for t.form fired c.fire_by_watermark-tally.new.self.state.rows.written (length c.fire_by_watermark-tally.new.self.state.rows.written) t.room c.fire_by_watermark-tally.new.self.state.rows.room ((simp to_z-of_z at c.fire_by_watermark-tally.ensures.rows [] (c.requires.empty ∙ sym (retracted_none p.header.mode))) ∙ ap (λ f. chosen_rows f fired []) (sym (tells.alike.form ∙ of.form))) refl
    (omega (arith, some, of.rows, c.fire_by_watermark-tally.ensures.room, tells.alike.room, of.room))

pub drop_expired-requires-clause-tells : goal.drop_expired-requires-clause-tells
drop_expired-requires-clause-tells c =
    let p = c.args.verified.now in let of = c.requires.program in let s = c.args.operator.now.state.streams in let es = entries_of c.args.operator.now.state.held in
    let t = c.fire_by_watermark-tally.new.self.state.streams in let fs = entries_of c.fire_by_watermark-tally.new.self.state.held in
    let few = held_within p c.requires.comes.0 c.args.operator.now of c.args.old (Ok (admitted.Watermark c.args.old c.args.new)) (Watermark c.requires.comes.1 c.requires.comes.2) c.requires.comes.3 in
    let can : CanTell t fs = can_tell_on s t es fs c.fire_by_watermark-tally.ensures.tells (can_tell (most_panes (query_of p)) s s es es of.streams of.room (same_alike s) (λ relation told. told) few) in
    let old : SFits w64 c.args.old = c.ranges.old in let new : SFits w64 c.args.new = c.ranges.new in
    can_go_on t c.advance.new.streams (int_lt c.args.old c.args.new) fs can c.advance.ensures.alike (simp to_z-of_z at (c.advance.ensures.told can.before (standing_rows fs) can.told))

pub drop_expired-requires-clause-placed : goal.drop_expired-requires-clause-placed
drop_expired-requires-clause-placed c =
    let p = c.args.verified.now in
    let old : SFits w64 c.args.old = c.ranges.old in
    let new : SFits w64 c.args.new = c.ranges.new in
    let panes : entries_of c.fire_by_watermark-tally.new.self.state.held ≡ at_watermark (plan_of p) (query_of p) c.args.old c.args.new (entries_of c.args.operator.now.state.held) = simp to_z-of_z at c.fire_by_watermark-tally.ensures.panes in
    let can = can_fire_at p c.requires.comes.0 c.args.operator.now c.requires.program c.args.old c.requires.comes.1 c.requires.comes.2 c.args.new c.requires.comes.3 _ c.requires.program.rows in
    subst (λ (es : Panes). AllByRecursion (λ e. IsPlaced (window_of e.0)) es) (sym panes) (placed_fired (plan_of p) (query_of p) (kind_by_watermark (query_of p) c.args.old c.args.new) (entries_of c.args.operator.now.state.held) can.placed)

pub drop_expired-requires-clause-lateness : goal.drop_expired-requires-clause-lateness
drop_expired-requires-clause-lateness c =
    let p = c.args.verified.now in
    let late : c.header.result.now.clock.lateness ≡ p.header.clock.lateness = ap (λ (h : Header). h.clock.lateness) (c.header.ensures.header ∙ ap (λ (q : Program). q.header) c.program.ensures.program) in
    let span = (lawful p c.requires.program.lawful).lateness in
    let lateness : SFits w64 p.header.clock.lateness = fits_signed_from_abs w64 p.header.clock.lateness (omega (arith, ints, span.low, span.high)) in
    rw late (simp to_z-of_z span)

pub returns : goal.returns
returns c =
    let p = c.args.verified.now in let of = c.requires.program in
    let old : SFits w64 c.args.old = c.ranges.old in
    let new : SFits w64 c.args.new = c.ranges.new in
    let late : c.header.result.now.clock.lateness ≡ p.header.clock.lateness = ap (λ (h : Header). h.clock.lateness) (c.header.ensures.header ∙ ap (λ (q : Program). q.header) c.program.ensures.program) in
    let span = (lawful p of.lawful).lateness in
    let lateness : SFits w64 p.header.clock.lateness = fits_signed_from_abs w64 p.header.clock.lateness (omega (arith, ints, span.low, span.high)) in
    let s = c.args.operator.now.state.streams in let t = c.fire_by_watermark-tally.new.self.state.streams in let u = c.advance.new.streams in let v = c.drop_expired.new.self.streams in
    let es = entries_of c.args.operator.now.state.held in let fs = entries_of c.fire_by_watermark-tally.new.self.state.held in let gs = entries_of c.drop_expired.new.self.held in
    let tells = c.fire_by_watermark-tally.ensures.tells in
    let panes : fs ≡ at_watermark (plan_of p) (query_of p) c.args.old c.args.new es = simp to_z-of_z at c.fire_by_watermark-tally.ensures.panes in
    let form : t.form ≡ p.header.form = tells.alike.form ∙ of.form in
    let before = last_relation s es in
    let rose = int_lt c.args.old c.args.new in
    let after = cond rose (relation_kept t.form before (relation_of fs)) before in
    let told_before : IsTold t before (standing_rows fs) = tells.told before of.streams.told in
    let told_after : IsTold v after (standing_rows gs) = c.drop_expired.ensures.told after (simp to_z-of_z at (c.advance.ensures.told before (standing_rows fs) told_before)) in
    let few = held_within p c.requires.comes.0 c.args.operator.now of c.args.old (Ok (admitted.Watermark c.args.old c.args.new)) (Watermark c.requires.comes.1 c.requires.comes.2) c.requires.comes.3 in
    let some : length (relation_of fs) ≤ most_panes (query_of p) = omega (arith, few, tells.as_many, length-sorted_rows (standing_rows fs), few_rows fs) in
    let one = c.fire_by_watermark-tally.ensures.keeps in let two = c.drop_expired.ensures.keeps in
    let fired : List OutRow = retracted_in p.header.mode (withdrawn_by_watermark (query_of p) c.args.old c.args.new es) ++ filter_map (row_of (plan_of p)) (fired_by_watermark (plan_of p) (query_of p) c.args.old c.args.new es) in
    let rows : c.fire_by_watermark-tally.new.self.state.rows.written ≡ chosen_rows p.header.form fired [] = simp to_z-of_z at c.fire_by_watermark-tally.ensures.rows [] (c.requires.empty ∙ sym (retracted_none p.header.mode)) in
    record {
      program =
          of_next p c.args.operator.now _ of (record { keys = two.keys ∙ one.keys; shape = two.shape ∙ one.shape; live = two.live ∙ one.live; widths = two.widths ∙ one.widths })
          (alike_on s t v tells.alike (alike_on t u v c.advance.ensures.alike c.drop_expired.ensures.alike)) (ap (λ (v : Rows). v.room) c.drop_expired.ensures.rows ∙ c.advance.ensures.room ∙ c.fire_by_watermark-tally.ensures.room)
          (are_told (most_panes (query_of p)) v gs after told_after (few_once t.form rose before (relation_of fs) (most_panes (query_of p)) of.streams.few some));
      panes = (simp to_z-of_z at (rw late at c.drop_expired.ensures.panes)) ∙ ap (where_key place_cmp (is_live_at (query_of p) c.args.new)) panes;
      room = ap (λ (v : Rows). v.room) c.drop_expired.ensures.rows ∙ c.advance.ensures.room ∙ c.fire_by_watermark-tally.ensures.room;
      relation = last_is v gs after told_after ∙ kept_once t.form rose before (relation_of fs) ∙ (λ i. relation_kept (form i) before (cond rose (relation_of (panes i)) before));
      rows =
          ap (λ (v : Rows). v.written) c.drop_expired.ensures.rows
          ∙ (simp to_z-of_z at (c.advance.ensures.rows before (standing_rows fs) told_before))
          ∙ (λ i. rows i ++ cond rose (stream_rows (form i) c.args.new before (relation_of (panes i))) [])
          ∙ rows_then p.header.form rose fired c.args.new before (relation_of (at_watermark (plan_of p) (query_of p) c.args.old c.args.new es));
      tally = simp to_z-of_z at c.fire_by_watermark-tally.ensures.tally;
    }
