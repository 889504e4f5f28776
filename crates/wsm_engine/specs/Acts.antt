-- What an event does to the operator of a program.
use Rattle.std.specs.Prelude.{◌≡◌, ◌+◌, ◌≤◌, ◌++◌, ℕ, ℤ, List, [], length, filter_map, int_lt, if◌then◌else◌, Result, Ok, Option, Some}
use Rattle.wsm_record.specs.declared.cell.Cell.{Cell}
use Rattle.wsm_record.specs.declared.event.Value.{Value}
use Rattle.wsm_record.specs.Event.{Event, Record, Watermark}
use Rattle.wsm_windows.specs.declared.place.Place.{Place}
use Rattle.wsm_admission.specs.declared.verdict.Admitted.{Admitted}
use Rattle.wsm_admission.specs.declared.verdict.Admitted.TheVariants as admitted
use Rattle.wsm_admission.specs.declared.verdict.Refusal.{Refusal}
use Rattle.wsm_semantics.specs.Relation.{chosen_rows, sorted_rows, stream_rows}
use Rattle.wsm_semantics.specs.HeldBounds.{most_rows, rows_of_panes}
use Rattle.wsm_semantics.specs.Replay.{datum}
use Rattle.wsm_semantics.specs.Retractions.{retracted_in}
use Rattle.wsm_semantics.specs.Steps.{State, fired_by, panes_after, relation_after, streamed_by, withdrawn_by}
use Rattle.wsm_semantics.specs.Summaries.{Fired, Pane, after_watermark, entered, fired_by_watermark, row_of, withdrawn_by_watermark, withdrawn_entering}
use Rattle.wsm_semantics.specs.declared.out_row.OutRow.{OutRow}
use Rattle.wsm_program.specs.Program.{Program}
use Rattle.wsm_machine.specs.Meaning.{answer_cost, plan_of, query_of, record_cost_by, selects}
use Rattle.wsm_panes.specs.Held.{entries_of}
use Rattle.wsm_firing.specs.Streams.{Told, IsTold, relation_kept}
use Rattle.wsm_firing.specs.Tally.{tally_of}
use Rattle.wsm_firing.specs.declared.operator.Arrival.{Arrival}
use Rattle.wsm_firing.specs.declared.operator.WindowOperator.{WindowOperator}
use Rattle.wsm_firing.specs.declared.tally.Tally.{Tally}
use Rattle.wsm_engine.specs.declared.acting.Done.{Done}
use Rattle.wsm_engine.specs.Turn.{selected_by}
use Rattle.wsm_engine.specs.Operator.{Comes, IsAt, IsOf, fired_with, last_relation, panes_with, relation_at, rows_with, streamed_at, withdrawn_with}

-- the panes that an operator holds, and the relation at the last instant
abbrev pub panes_of : WindowOperator → List (Place × Pane (List Value))
panes_of r = entries_of r.state.held

abbrev pub relation_told : WindowOperator → List (List Cell)
relation_told r = last_relation r.state.streams (panes_of r)

-- a record that is admitted, or a watermark that is accepted, comes after some history
abbrev pub Arrives : Program → ℤ → ℕ → ℤ → List Value → WindowOperator → Type 0
Arrives p mark key time values r = (past : List Event) × Comes p past r.state.held mark (Ok admitted.Record) (Record (Some key) time values)

abbrev pub Rises : Program → ℤ → ℤ → WindowOperator → Type 0
Rises p from to r =
    (past : List Event) × (source : Option ℕ) × (time : ℤ) × Comes p past r.state.held from (Ok (admitted.Watermark from to)) (Watermark source time)

-- ---- an event, by a state of the machine at a mark

-- the rows of what it withdraws and fires, or those of a stream
abbrev pub rows_by : Program → Result Admitted Refusal → Event → State (List Value) → List OutRow
rows_by p a e s = let plan = plan_of p in let q = query_of p in
    chosen_rows p.header.form (retracted_in p.header.mode (withdrawn_by plan q a e s) ++ filter_map (row_of plan) (fired_by plan q a e s))
    (streamed_by plan q p.header.form a s)

pub record Acts (p : Program) (mark : ℤ) (a : Result Admitted Refusal) (e : Event) (old new : WindowOperator) (done : Done) : Type 0 where
  pub program : IsOf p new
  pub panes : (s : State (List Value)) → IsAt mark old s → panes_of new ≡ panes_after (plan_of p) (query_of p) a e s
  pub relation : (s : State (List Value)) → IsAt mark old s →
      relation_told new ≡ relation_kept p.header.form s.relation (relation_after (plan_of p) (query_of p) a s)
  pub rows : (s : State (List Value)) → IsAt mark old s → new.state.rows.written ≡ rows_by p a e s
  pub room : new.state.rows.room ≡ old.state.rows.room
  pub selected : done.selected ≡ selected_by p a e
  pub cost : (s : State (List Value)) → IsAt mark old s → done.record_steps ≡ answer_cost p a e s
  pub tally : (s : State (List Value)) → IsAt mark old s → done.tally ≡ tally_of p (fired_by (plan_of p) (query_of p) a e s)

-- ---- a record that is admitted, where WHERE is asked of it

abbrev pub fired_of : Program → Arrival → List Value → WindowOperator → List (Fired (List Value))
fired_of p a values r = fired_with p a.mark a.key a.time values (panes_of r)

pub record TakesRecord (p : Program) (a : Arrival) (values : List Value) (old new : WindowOperator) (done : Done) : Type 0 where
  pub program : IsOf p new
  pub panes : panes_of new ≡ panes_with p a.mark a.key a.time values (panes_of old)
  pub relation : relation_told new ≡ relation_told old
  pub rows : new.state.rows.written ≡ rows_with p (withdrawn_with p a.mark a.key a.time values (panes_of old)) (fired_of p a values old) []
  pub room : new.state.rows.room ≡ old.state.rows.room
  pub selected : done.selected ≡ selects p a.key values
  pub cost : done.record_steps ≡ record_cost_by p (panes_of old) (datum 0 a.mark a.key a.time values)
  pub tally : done.tally ≡ tally_of p (fired_of p a values old)

-- the panes that it is put into, and the rows that are withdrawn as it joins two
abbrev pub panes_once_entered : Program → ℤ → ℕ → ℤ → List Value → WindowOperator → List (Place × Pane (List Value))
panes_once_entered p mark key time values r = entered (plan_of p) p.header.shape p.header.clock.lateness (datum 0 mark key time values) (panes_of r)

abbrev pub rows_entering : Program → ℤ → ℕ → ℤ → List Value → WindowOperator → List OutRow
rows_entering p mark key time values r =
    retracted_in p.header.mode (withdrawn_entering (plan_of p) p.header.shape (datum 0 mark key time values) (panes_of r))

-- there is room behind the rows of a turn for those of all that can fire
abbrev pub LeavesRoom : Program → WindowOperator → Type 0
LeavesRoom p r = length r.state.rows.written + rows_of_panes p.header.mode (length (panes_of r)) ≤ most_rows (query_of p)

-- ---- a watermark that is accepted

pub record TakesWatermark (p : Program) (from to : ℤ) (old new : WindowOperator) (counted : Tally) : Type 0 where
  pub program : IsOf p new
  pub panes : panes_of new ≡ after_watermark (plan_of p) (query_of p) from to (panes_of old)
  pub relation : relation_told new ≡ relation_kept p.header.form (relation_told old) (relation_at p from to (relation_told old) (panes_of old))
  pub rows : let q = query_of p in
      new.state.rows.written ≡ rows_with p (withdrawn_by_watermark q from to (panes_of old)) (fired_by_watermark (plan_of p) q from to (panes_of old))
      (streamed_at p from to (relation_told old) (panes_of old))
  pub room : new.state.rows.room ≡ old.state.rows.room
  pub tally : counted ≡ tally_of p (fired_by_watermark (plan_of p) (query_of p) from to (panes_of old))

-- the streams go on to the next instant where it rose, and write their rows
abbrev pub AdvancesOnRise : ℤ → ℤ → Told → Told → Type 0
AdvancesOnRise from to old new = (before now : List (List Cell)) → IsTold old before now →
    IsTold new (if int_lt from to then relation_kept old.form before (sorted_rows now) else before) now

abbrev pub WritesOnRise : ℤ → ℤ → Told → List OutRow → List OutRow → Type 0
WritesOnRise from to s rows written = (before now : List (List Cell)) → IsTold s before now →
    written ≡ rows ++ (if int_lt from to then stream_rows s.form to before (sorted_rows now) else [])
