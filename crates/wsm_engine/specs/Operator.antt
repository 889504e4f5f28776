-- The operator of a program: for what it has room, and what it keeps as an event comes.
use Rattle.std.specs.Prelude.{◌≡◌, Option, pos, ℕ, ◌*◌, ◌+◌, ◌≤◌, List, [], ◌∷◌, ◌++◌, length, filter_map, ℤ, int_lt, Result, Ok, if◌then◌else◌, IsTrue}
use Rattle.wsm_record.specs.declared.event.Value.{Value}
use Rattle.wsm_record.specs.declared.cell.Cell.{Cell}
use Rattle.wsm_record.specs.Event.{Event}
use Rattle.wsm_record.specs.Modes.{retracts}
use Rattle.wsm_windows.specs.Life.{live_bound}
use Rattle.wsm_windows.specs.Windows.{IsTime}
use Rattle.wsm_windows.specs.declared.window.Window.{Window}
use Rattle.wsm_admission.specs.declared.verdict.Admitted.{Admitted}
use Rattle.wsm_admission.specs.declared.verdict.Refusal.{Refusal}
use Rattle.wsm_admission.specs.Admission.{answer}
use Rattle.wsm_semantics.specs.Query as query
use Rattle.wsm_semantics.specs.Query.{verdict_on}
use Rattle.wsm_semantics.specs.HeldBounds.{most_panes, most_rows}
use Rattle.wsm_semantics.specs.Kept.{kept}
use Rattle.wsm_semantics.specs.Summaries.{Pane, Fired, summaries, after_record, fired_by_record, withdrawn_by_record, at_watermark, relation_of, row_of}
use Rattle.wsm_semantics.specs.Replay.{datum}
use Rattle.wsm_semantics.specs.declared.out_row.OutRow.{OutRow}
use Rattle.wsm_semantics.specs.Relation.{chosen_rows, stream_rows}
use Rattle.wsm_semantics.specs.Retractions.{retracted_in}
use Rattle.wsm_semantics.specs.Steps.{State}
use Rattle.wsm_program.specs.Program.{Header, Program, is_program}
use Rattle.wsm_rules.specs.Costs.{needed}
use Rattle.wsm_rules.specs.Rules.{judge}
use Rattle.wsm_machine.specs.Meaning.{query_of, plan_of, selects, update_run, joins_sessions, windows_entered}
use Rattle.wsm_slots.specs.declared.widths.Widths.{Widths}
use Rattle.wsm_panes.specs.Entered.{IsToldAlone}
use Rattle.wsm_panes.specs.Held.{Held, entries_of, session_entered}
use Rattle.wsm_firing.specs.Streams.{Told, IsTold, relation_before, standing_rows}
use Rattle.wsm_windows.specs.declared.place.Place.{Place}
use Rattle.wsm_firing.specs.declared.operator.WindowOperator.{WindowOperator}

-- the relation at the last instant, by what the streams were told since
abbrev pub last_relation : Told → List (Place × Pane (List Value)) → List (List Cell)
last_relation s panes = relation_before s.form s.numbers (relation_of panes)

-- the streams were told of the panes, of no more rows than so many
pub record AreTold (most : ℕ) (s : Told) (panes : List (Place × Pane (List Value))) : Type 0 where
  pub told : IsTold s (last_relation s panes) (standing_rows panes)
  pub few : length (last_relation s panes) ≤ most

-- how wide the panes of a program are
abbrev pub widths_of : Header → Widths
widths_of h = record { accumulators = length h.kinds; columns = length h.columns; windows = retracts h.mode }

-- the program is accepted, there is room for as many panes and rows as it can hold, and the streams were told
pub record IsOf (p : Program) (r : WindowOperator) : Type 0 where
  pub judged : judge p ≡ Ok (needed p)
  pub lawful : IsTrue (is_program p)
  pub keys : r.state.held.keys ≡ length p.header.schema.keys
  pub shape : r.state.held.shape ≡ p.header.shape
  pub live : r.state.held.live ≡ live_bound p.header.shape p.header.clock.skew p.header.clock.lateness
  pub widths : r.state.held.widths ≡ widths_of p.header
  pub form : r.state.streams.form ≡ p.header.form
  pub room : r.state.streams.room ≡ most_panes (query_of p)
  pub rows : most_rows (query_of p) ≤ r.state.rows.room
  pub streams : AreTold (most_panes (query_of p)) r.state.streams (entries_of r.state.held)

-- an event comes after a history, with its answer, and what is held is the history's
pub record Comes (p : Program) (past : List Event) (h : Held) (mark : ℤ) (a : Result Admitted Refusal) (e : Event) : Type 0 where
  pub marked : mark ≡ query.mark (query_of p) past
  pub timely : IsTime mark
  pub next : IsTime (query.mark (query_of p) (e ∷ past))
  pub answered : a ≡ answer mark (query.mark (query_of p) (e ∷ past)) e (verdict_on (query_of p) past e)
  pub panes : entries_of h ≡ summaries (plan_of p) p.header.mode (kept (query_of p) past)

-- the operator keeps the panes and the relation of a state of the machine at a mark
pub record IsAt (mark : ℤ) (r : WindowOperator) (s : State (List Value)) : Type 0 where
  pub marked : s.admission.mark ≡ mark
  pub panes : s.panes ≡ entries_of r.state.held
  pub relation : s.relation ≡ last_relation r.state.streams (entries_of r.state.held)

-- the one window that is told of a record that is put in, if one is: its session, or the only one of its time
abbrev pub IsAlone : Program → ℤ → ℕ → ℤ → List (Place × Pane (List Value)) → Option Window → Type 0
IsAlone p mark key time panes alone =
    IsToldAlone p.header.shape time p.header.clock.lateness mark (session_entered p.header.shape (datum 0 (pos 0) key time []) panes) alone

-- what a record does that WHERE is asked of
abbrev pub panes_with : Program → ℤ → ℕ → ℤ → List Value → List (Place × Pane (List Value)) → List (Place × Pane (List Value))
panes_with p mark key time values panes = if selects p key values then after_record (plan_of p) (query_of p) mark (datum 0 mark key time values) panes else panes

abbrev pub fired_with : Program → ℤ → ℕ → ℤ → List Value → List (Place × Pane (List Value)) → List (Fired (List Value))
fired_with p mark key time values panes = if selects p key values then fired_by_record (plan_of p) (query_of p) mark (datum 0 mark key time values) panes else []

abbrev pub withdrawn_with : Program → ℤ → ℕ → ℤ → List Value → List (Place × Pane (List Value)) → List (Place × List Cell)
withdrawn_with p mark key time values panes = if selects p key values then withdrawn_by_record (plan_of p) (query_of p) mark (datum 0 mark key time values) panes else []

-- the rows of what is withdrawn and of what fires, or those of a stream
abbrev pub rows_with : Program → List (Place × List Cell) → List (Fired (List Value)) → List OutRow → List OutRow
rows_with p withdrawn fired streamed = chosen_rows p.header.form (retracted_in p.header.mode withdrawn ++ filter_map (row_of (plan_of p)) fired) streamed

-- the relation once the watermark went from old to new, and what the streams write then: another than the
-- last one, and rows, only where it rose
abbrev pub relation_at : Program → ℤ → ℤ → List (List Cell) → List (Place × Pane (List Value)) → List (List Cell)
relation_at p old new before panes = if int_lt old new then relation_of (at_watermark (plan_of p) (query_of p) old new panes) else before

abbrev pub streamed_at : Program → ℤ → ℤ → List (List Cell) → List (Place × Pane (List Value)) → List OutRow
streamed_at p old new before panes = if int_lt old new then stream_rows p.header.form new before (relation_of (at_watermark (plan_of p) (query_of p) old new panes)) else []

-- the instructions of UPDATE for a selected record, once for each window, and a step for each accumulator that is joined
abbrev pub entering_cost : Program → ℤ → ℕ → ℤ → List Value → List (Place × Pane (List Value)) → ℕ
entering_cost p mark key time values panes =
    windows_entered p.header.shape time p.header.clock.lateness mark * (update_run p key values).steps
    + (if joins_sessions p.header.shape (datum 0 mark key time values) panes then length p.header.kinds else 0)
