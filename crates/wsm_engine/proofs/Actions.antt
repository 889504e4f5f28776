-- What the answer to an event does, by a state of the machine that the operator keeps.
use Rattle.std.proofs.Common.{◌≡◌, ℕ, ◌++◌, cond, List, [], ℤ, Some, Ok, Result, sym, ap, ◌∙◌}
use Rattle.std.specs.Prelude.{filter_map}
use Rattle.wsm_record.specs.declared.event.Value.{Value}
use Rattle.wsm_record.specs.Event.{Event, Record}
use Rattle.wsm_admission.specs.declared.verdict.Admitted.{Admitted}
use Rattle.wsm_admission.specs.declared.verdict.Admitted.TheVariants as admitted
use Rattle.wsm_admission.specs.declared.verdict.Refusal.{Refusal}
use Rattle.wsm_semantics.specs.Query.{Query}
use Rattle.wsm_semantics.specs.Summaries.{Plan, after_record, after_watermark, fired_by_record, fired_by_watermark, withdrawn_by_record, withdrawn_by_watermark, row_of}
use Rattle.wsm_semantics.specs.Replay.{datum}
use Rattle.wsm_semantics.specs.Retractions.{retracted_in}
use Rattle.wsm_semantics.specs.Relation.{chosen_rows}
use Rattle.wsm_semantics.specs.Steps.{State, panes_after, fired_by, withdrawn_by, relation_after, streamed_by}
use Rattle.wsm_program.specs.Program.{Program}
use Rattle.wsm_machine.specs.Meaning.{query_of, plan_of, selects}
use Rattle.wsm_panes.specs.Held.{entries_of}
use Rattle.wsm_firing.specs.Streams.{relation_kept}
use Rattle.wsm_firing.specs.declared.operator.WindowOperator.{WindowOperator}
use Rattle.wsm_engine.specs.Operator.{IsAt, last_relation, panes_with, fired_with, withdrawn_with, rows_with, relation_at, streamed_at}

module _ (p : Program) (r : WindowOperator) (m : ℤ) (s : State (List Value)) (at : IsAt m r s) (a : Result Admitted Refusal) (e : Event) where
  abbrev plan : Plan (List Value)
  plan = plan_of p

  abbrev q : Query
  q = query_of p

  module _ (k : ℕ) (t : ℤ) (vs : List Value) (is : a ≡ Ok admitted.Record) (ev : e ≡ Record (Some k) t vs) where
    pub panes_record : panes_with p m k t vs (entries_of r.state.held) ≡ panes_after (plan_of p) (query_of p) a e s
    panes_record =
        (λ i. cond (selects p k vs) (after_record plan q (sym at.marked i) (datum 0 (sym at.marked i) k t vs) (sym at.panes i)) (sym at.panes i))
        ∙ (λ i. panes_after plan q (sym is i) (sym ev i) s)

    pub fired_record : fired_with p m k t vs (entries_of r.state.held) ≡ fired_by (plan_of p) (query_of p) a e s
    fired_record =
        (λ i. cond (selects p k vs) (fired_by_record plan q (sym at.marked i) (datum 0 (sym at.marked i) k t vs) (sym at.panes i)) [])
        ∙ (λ i. fired_by plan q (sym is i) (sym ev i) s)

    withdrawn_record : withdrawn_with p m k t vs (entries_of r.state.held) ≡ withdrawn_by (plan_of p) (query_of p) a e s
    withdrawn_record =
        (λ i. cond (selects p k vs) (withdrawn_by_record plan q (sym at.marked i) (datum 0 (sym at.marked i) k t vs) (sym at.panes i)) [])
        ∙ (λ i. withdrawn_by plan q (sym is i) (sym ev i) s)

    pub rows_record : rows_with p (withdrawn_with p m k t vs (entries_of r.state.held)) (fired_with p m k t vs (entries_of r.state.held)) []
        ≡ chosen_rows p.header.form (retracted_in p.header.mode (withdrawn_by (plan_of p) (query_of p) a e s) ++ filter_map (row_of (plan_of p)) (fired_by (plan_of p) (query_of p) a e s)) (streamed_by (plan_of p) (query_of p) p.header.form a s)
    rows_record = λ i. chosen_rows p.header.form (retracted_in p.header.mode (withdrawn_record i) ++ filter_map (row_of plan) (fired_record i)) (streamed_by plan q p.header.form (sym is i) s)

  module _ (old new : ℤ) (is : a ≡ Ok (admitted.Watermark old new)) where
    pub panes_mark : after_watermark (plan_of p) (query_of p) old new (entries_of r.state.held) ≡ panes_after (plan_of p) (query_of p) a e s
    panes_mark = ap (after_watermark plan q old new) (sym at.panes) ∙ (λ i. panes_after plan q (sym is i) e s)

    pub fired_mark : fired_by_watermark (plan_of p) (query_of p) old new (entries_of r.state.held) ≡ fired_by (plan_of p) (query_of p) a e s
    fired_mark = ap (fired_by_watermark plan q old new) (sym at.panes) ∙ (λ i. fired_by plan q (sym is i) e s)

    pub relation_mark : relation_kept p.header.form (last_relation r.state.streams (entries_of r.state.held)) (relation_at p old new (last_relation r.state.streams (entries_of r.state.held)) (entries_of r.state.held)) ≡ relation_kept p.header.form s.relation (relation_after (plan_of p) (query_of p) a s)
    relation_mark =
        (λ i. relation_kept p.header.form (sym at.relation i) (relation_at p old new (sym at.relation i) (sym at.panes i)))
        ∙ (λ i. relation_kept p.header.form s.relation (relation_after plan q (sym is i) s))

    pub rows_mark : rows_with p (withdrawn_by_watermark (query_of p) old new (entries_of r.state.held)) (fired_by_watermark (plan_of p) (query_of p) old new (entries_of r.state.held)) (streamed_at p old new (last_relation r.state.streams (entries_of r.state.held)) (entries_of r.state.held))
        ≡ chosen_rows p.header.form (retracted_in p.header.mode (withdrawn_by (plan_of p) (query_of p) a e s) ++ filter_map (row_of (plan_of p)) (fired_by (plan_of p) (query_of p) a e s)) (streamed_by (plan_of p) (query_of p) p.header.form a s)
    rows_mark =
        (λ i. rows_with p (withdrawn_by_watermark q old new (sym at.panes i)) (fired_by_watermark plan q old new (sym at.panes i)) (streamed_at p old new (sym at.relation i) (sym at.panes i)))
        ∙ (λ i. rows_with p (withdrawn_by plan q (sym is i) e s) (fired_by plan q (sym is i) e s) (streamed_by plan q p.header.form (sym is i) s))
