-- A machine that keeps a summary for each held pane in place of the history, event by event: for all
-- shapes, modes, triggers and forms.
use Rattle.std.specs.Prelude.{◌≡◌, ℕ, ◌+◌, List, [], ◌∷◌, ◌++◌, length, filter_map, int_lt, Some, Result, Ok, if◌then◌else◌}
use Rattle.wsm_record.specs.declared.cell.Cell.{Cell}
use Rattle.wsm_record.specs.declared.words.Form.{Form}
use Rattle.wsm_record.specs.Event.{Event, Record}
use Rattle.wsm_windows.specs.declared.place.Place.{Place}
use Rattle.wsm_admission.specs.declared.verdict.Admitted.{Admitted}
use Rattle.wsm_admission.specs.declared.verdict.Admitted.TheVariants as admitted
use Rattle.wsm_admission.specs.declared.verdict.Refusal.{Refusal}
use Rattle.wsm_admission.specs.Admission as admission
use Rattle.wsm_admission.specs.Admission.{counter, decision, after}
use Rattle.wsm_semantics.specs.declared.out_row.OutRow.{OutRow}
use Rattle.wsm_semantics.specs.Query.{Query, datum}
use Rattle.wsm_semantics.specs.Firings.{firings_so_far}
use Rattle.wsm_semantics.specs.Retractions.{retracted_in}
use Rattle.wsm_semantics.specs.Relation.{relation, stream_rows, chosen_rows}
use Rattle.wsm_semantics.specs.Kept.{kept}
use Rattle.wsm_semantics.specs.Summaries as panes
use Rattle.wsm_semantics.specs.Summaries.{Plan, Pane, Fired, summaries, row_of}

pub record State (X : Type 0) : Type 0 where
  pub admission : admission.State
  pub panes : List (Place × Pane X)
  pub relation : List (List Cell)  -- at the last rise of the watermark
  pub fed : ℕ
  pub fired : ℕ

module _ {X : Type 0} (plan : Plan X) (q : Query) where
  -- before the first event
  abbrev pub opened : State X
  opened = record { admission = admission.opened q.clock q.declared; panes = []; relation = []; fed = 0; fired = 0 }

  -- what an answer to an event does to the panes; no number of a turn is kept of a record
  abbrev pub panes_after : Result Admitted Refusal → Event → State X → List (Place × Pane X)
  panes_after (Ok admitted.Record) (Record (Some key) time values) s =
      if plan.selects key values then panes.after_record plan q s.admission.mark (datum 0 s.admission.mark key time values) s.panes else s.panes
  panes_after (Ok (admitted.Watermark old new)) e s = panes.after_watermark plan q old new s.panes
  panes_after answer e s = s.panes

  abbrev pub fired_by : Result Admitted Refusal → Event → State X → List (Fired X)
  fired_by (Ok admitted.Record) (Record (Some key) time values) s =
      if plan.selects key values then panes.fired_by_record plan q s.admission.mark (datum 0 s.admission.mark key time values) s.panes else []
  fired_by (Ok (admitted.Watermark old new)) e s = panes.fired_by_watermark plan q old new s.panes
  fired_by answer e s = []

  -- what was written and is withdrawn on its turn
  abbrev pub withdrawn_by : Result Admitted Refusal → Event → State X → List (Place × List Cell)
  withdrawn_by (Ok admitted.Record) (Record (Some key) time values) s =
      if plan.selects key values then panes.withdrawn_by_record plan q s.admission.mark (datum 0 s.admission.mark key time values) s.panes else []
  withdrawn_by (Ok (admitted.Watermark old new)) e s = panes.withdrawn_by_watermark q old new s.panes
  withdrawn_by answer e s = []

  abbrev pub relation_after : Result Admitted Refusal → State X → List (List Cell)
  relation_after (Ok (admitted.Watermark old new)) s = if int_lt old new then panes.relation_of (panes.at_watermark plan q old new s.panes) else s.relation
  relation_after answer s = s.relation

  abbrev pub streamed_by : Form → Result Admitted Refusal → State X → List OutRow
  streamed_by f (Ok (admitted.Watermark old new)) s = if int_lt old new then stream_rows f new s.relation (panes.relation_of (panes.at_watermark plan q old new s.panes)) else []
  streamed_by f answer s = []

  abbrev pub after_answer : Result Admitted Refusal → Event → State X → State X
  after_answer answer e s = record {
    admission = after answer e s.admission;
    panes = panes_after answer e s;
    relation = relation_after answer s;
    fed = counter (s.fed + 1);
    fired = counter (s.fired + length (fired_by answer e s));
  }

  abbrev pub answer_to : State X → Event → Result Admitted Refusal
  answer_to s e = decision q.shape q.declared s.admission e

  -- what is kept after an event
  abbrev pub step : State X → Event → State X
  step s e = after_answer (answer_to s e) e s

  -- what fires on the turn of an event, and its rows
  abbrev pub step_fires : State X → Event → List (Fired X)
  step_fires s e = fired_by (answer_to s e) e s

  abbrev pub step_rows : State X → Event → List OutRow
  step_rows s e = chosen_rows q.form (retracted_in q.mode (withdrawn_by (answer_to s e) e s) ++ filter_map (row_of plan) (step_fires s e)) (streamed_by q.form (answer_to s e) s)

-- what is kept is the history's
pub record Fits {X : Type 0} (plan : Plan X) (q : Query) (s : State X) (past : List Event) : Type 0 where
  pub clock : s.admission.clock ≡ q.clock
  pub admission : admission.Fits q.shape q.declared s.admission past
  pub panes : s.panes ≡ summaries plan q.mode (kept q past)
  pub relation : s.relation ≡ relation q past
  pub fed : s.fed ≡ counter (length past)
  pub fired : s.fired ≡ counter (length (firings_so_far q past))

-- what is kept after a history
abbrev pub run : {X : Type 0} → Plan X → Query → List Event → State X
run plan q [] = opened plan q
run plan q (e ∷ past) = step plan q (run plan q past) e
