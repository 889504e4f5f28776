-- What a program means: the query that its sections answer, and how many instructions its turns and
-- firings execute. WHERE selects a record, UPDATE gives what is folded of it, and FIRE gives the row of
-- a key, a number of records and what they are folded to. No section of a verified program traps on
-- inputs in range; what a trap comes to here is of no account.
use Rattle.std.specs.Prelude.{◌≡◌, ℤ, ℕ, ◌+◌, ◌*◌, Bool, true, false, ◌&&◌, List, [], ◌∷◌, map, reverse, length, filter, pos, Option, Some, None, nat_lt, unsigned_abs, if◌then◌else◌, Result, Ok}
use Rattle.std.specs.Option.{option_and_then}
use Rattle.wsm_record.specs.declared.event.Value.{Value}
use Rattle.wsm_record.specs.Event.{Event, Record}
use Rattle.wsm_windows.specs.declared.window.Shape.{Shape}
use Rattle.wsm_windows.specs.declared.window.Shape.TheVariants.{Session}
use Rattle.wsm_admission.specs.declared.verdict.Admitted.{Admitted}
use Rattle.wsm_admission.specs.declared.verdict.Admitted.TheVariants as admitted
use Rattle.wsm_admission.specs.declared.verdict.Refusal.{Refusal}
use Rattle.wsm_semantics.specs.Query.{Query, Datum, datum, Effect, Selects, Rises, Nothing, effect_of, mark, is_taken, selected}
use Rattle.wsm_semantics.specs.Sessions.{sessions}
use Rattle.wsm_semantics.specs.Panes.{of_key, windows_among}
use Rattle.wsm_semantics.specs.Firings.{Firing}
use Rattle.wsm_semantics.specs.Kept.{Kept, kept, is_linked}
use Rattle.wsm_semantics.specs.Summaries.{Plan, Pane, Fired}
pub use Rattle.wsm_semantics.specs.Summaries.{joins_sessions, windows_entered}
use Rattle.wsm_semantics.specs.Steps.{State, answer_to}
use Rattle.wsm_fold.specs.Fold.{joins, folds_of}
use Rattle.wsm_program.specs.declared.instr.SectionId.TheVariants.{Where, Update, Fire}
use Rattle.wsm_program.specs.Program.{Program}
use Rattle.wsm_record.specs.declared.cell.Cell.{Cell}
use Rattle.wsm_record.specs.declared.cell.Cell.TheVariants as cells
use Rattle.wsm_windows.specs.declared.place.Place.{Place}
use Rattle.wsm_windows.specs.Places.{at}
use Rattle.wsm_machine.specs.declared.outcome.Outcome.{Outcome}
use Rattle.wsm_machine.specs.declared.outcome.Outcome.TheVariants.{Done}
use Rattle.wsm_machine.specs.declared.run.Ran.{Ran}
use Rattle.wsm_machine.specs.Inputs.{Inputs}
use Rattle.wsm_machine.specs.InRange.{folded_value}
use Rattle.wsm_machine.specs.Run.{run}

-- ---- runs

-- what WHERE and UPDATE read of a record
abbrev pub record_inputs : ℕ → List Value → Inputs
record_inputs key values = record { key = key; values = values; count = pos 0; accs = [] }

-- what FIRE reads of a key, a number of records and what they are folded to
abbrev pub pane_inputs : ℕ → ℕ → List Value → Inputs
pane_inputs key count accs = record { key = key; values = []; count = pos count; accs = accs }

abbrev pub where_run : Program → ℕ → List Value → Ran
where_run p key values = run p Where (record_inputs key values)

abbrev pub update_run : Program → ℕ → List Value → Ran
update_run p key values = run p Update (record_inputs key values)

abbrev pub fire_run : Program → ℕ → ℕ → List Value → Ran
fire_run p key count accs = run p Fire (pane_inputs key count accs)

-- ---- what they answer

abbrev pub is_done : Outcome → Bool
is_done Done = true
is_done _ = false

abbrev pub top_is_true : List Cell → Bool
top_is_true (cells.Bool b ∷ rest) = b
top_is_true _ = false

-- what is below the top, the lowest first
abbrev pub cells_below : List Cell → List Cell
cells_below [] = []
cells_below (top ∷ rest) = reverse rest

-- the run ended with a truth on top, which is true
abbrev pub says_true : Ran → Bool
says_true r = is_done r.outcome && top_is_true r.stack

abbrev pub selects : Program → ℕ → List Value → Bool
selects p key values = says_true (where_run p key values)

-- one value for each accumulator
abbrev pub updated : Program → ℕ → List Value → List Value
updated p key values = map folded_value (update_run p key values).folds

-- the columns, where HAVING is true
abbrev pub columns_of : Ran → Option (List Cell)
columns_of r = if says_true r then Some (cells_below r.stack) else None

abbrev pub row : Program → ℕ → ℕ → List Value → Option (List Cell)
row p key count accs = columns_of (fire_run p key count accs)

-- what UPDATE gives of some records, and what these are folded to
abbrev pub updated_all : Program → List Datum → List (List Value)
updated_all p ds = map (λ d. updated p d.key d.values) ds

abbrev pub folded : Program → List Datum → Option (List Value)
folded p ds = folds_of p.header.kinds (updated_all p ds)

-- ---- the query

abbrev pub query_of : Program → Query
query_of p = record {
  clock = p.header.clock;
  declared = p.header.schema;
  shape = p.header.shape;
  mode = p.header.mode;
  early = unsigned_abs p.header.early;
  late = unsigned_abs p.header.late;
  form = p.header.form;
  selects = selects p;
  row = λ key ds. option_and_then (row p key (length ds)) (folded p ds);
}

-- how it runs on what accumulators hold
abbrev pub plan_of : Program → Plan (List Value)
plan_of p = record {
  selects = selects p;
  first = updated p;
  more = λ held key values. joins p.header.kinds held (updated p key values);
  join = joins p.header.kinds;
  row = row p;
}

-- ---- what turns and firings cost

-- a record that joined two sessions or not, and so many windows that it entered
abbrev pub record_steps : Program → ℕ → List Value → ℕ → Bool → ℕ
record_steps p key values windows joined =
    (where_run p key values).steps
    + (if selects p key values then windows * (update_run p key values).steps + (if joined then length p.header.kinds else 0) else 0)

-- two earlier sessions of the key that the record is linked to
abbrev pub joins_two : Shape → List Datum → Datum → Bool
joins_two (Session gap) before d = nat_lt 1 (length (filter (λ w. is_linked gap d (at d.key w)) (sessions gap (map (λ x. x.time) (of_key d.key before)))))
joins_two shape before d = false

abbrev pub steps_among : Program → List Datum → Datum → ℕ
steps_among p before d = record_steps p d.key d.values (length (windows_among p.header.shape p.header.clock.lateness (d ∷ before) d)) (joins_two p.header.shape before d)

-- WHERE runs on each record that is taken: on each that would be selected if there were no WHERE
abbrev pub before_where : Program → Query
before_where p = record (query_of p) { selects = λ key values. true }

-- what an event does costs so many instructions, after some selected records
abbrev pub effect_cost : Program → List Datum → Effect → ℕ
effect_cost p before (Selects d) = steps_among p before d
effect_cost p before (Rises old new) = 0
effect_cost p before Nothing = 0

-- the instructions of a turn, its firings aside, and a step for each accumulator that was joined
abbrev pub record_cost : Program → List Event → Event → ℕ
record_cost p past e = effect_cost p (selected (query_of p) past) (effect_of (before_where p) past e)

abbrev pub fire_steps : Program → ℕ → ℕ → Option (List Value) → ℕ
fire_steps p key count None = 0
fire_steps p key count (Some accs) = (fire_run p key count accs).steps

-- the instructions of a firing
abbrev pub pane_cost : Program → Firing → ℕ
pane_cost p f = fire_steps p f.place.key (length f.fired) (folded p f.fired)

abbrev pub record_cost_by : Program → List (Place × Pane (List Value)) → Datum → ℕ
record_cost_by p panes d = record_steps p d.key d.values (windows_entered p.header.shape d.time p.header.clock.lateness d.mark) (joins_sessions p.header.shape d panes)

abbrev pub pane_cost_by : Program → Fired (List Value) → ℕ
pane_cost_by p f = fire_steps p f.place.key f.count f.folded

-- the instructions of an event's turn, its firings aside, and a step for each accumulator that was joined
abbrev pub answer_cost : Program → Result Admitted Refusal → Event → State (List Value) → ℕ
answer_cost p (Ok admitted.Record) (Record (Some key) time values) s = record_cost_by p s.panes (datum 0 s.admission.mark key time values)
answer_cost p answer e s = 0

abbrev pub step_cost : Program → State (List Value) → Event → ℕ
step_cost p s e = answer_cost p (answer_to (plan_of p) (query_of p) s e) e s

-- What is counted of sessions by their definition is what is counted of the panes that are held: a
-- record stands in one session, and those that it is linked to are held.
abbrev pub joins_kept : Shape → Datum → List (Place × Kept) → Bool
joins_kept (Session gap) d panes = nat_lt 1 (length (filter (λ e. is_linked gap d e.0) panes))
joins_kept shape d panes = false

pub record CountsSessions (q : Query) : Type 0 where
  pub stands_in : (past : List Event) (key : ℕ) (time : ℤ) (values : List Value) → is_taken q past (Record (Some key) time values) ≡ true → q.selects key values ≡ true →
      length (windows_among q.shape q.clock.lateness (datum (length past) (mark q past) key time values ∷ selected q past) (datum (length past) (mark q past) key time values)) ≡ windows_entered q.shape time q.clock.lateness (mark q past)
  pub joins_them : (past : List Event) (key : ℕ) (time : ℤ) (values : List Value) → is_taken q past (Record (Some key) time values) ≡ true → q.selects key values ≡ true →
      joins_two q.shape (selected q past) (datum (length past) (mark q past) key time values) ≡ joins_kept q.shape (datum (length past) (mark q past) key time values) (kept q past)
