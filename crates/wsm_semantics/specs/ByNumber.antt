-- The law by number: which numbers declared keys have is of no account, but for their order. A query over
-- some of the keys of another, in their order there, reads and writes what the other does, each key by its
-- number. So a part of a history by keys may be run by a query that declares no others.
use Rattle.std.specs.Prelude.{◌≡◌, ℕ, ◌<◌, List, map, length, nat_lt, option_map}
use Rattle.wsm_record.specs.Event.{Event, Record, Watermark}
use Rattle.wsm_semantics.specs.declared.out_row.OutRow.{OutRow}
use Rattle.wsm_semantics.specs.declared.out_row.OutRow.TheVariants.{Pane, Retract, Istream, Dstream, Rstream}
use Rattle.wsm_semantics.specs.Query.{Datum, Query, verdict_on}
use Rattle.wsm_semantics.specs.Relation.{turn_rows}

-- what says of keys which number they have in another declaration
abbrev pub Numbers : Type 0
Numbers = ℕ → ℕ

abbrev pub event_by : Numbers → Event → Event
event_by number (Record key time values) = Record (option_map number key) time values
event_by number (Watermark source time) = Watermark source time

abbrev pub datum_by : Numbers → Datum → Datum
datum_by number d = record d { key = number d.key }

abbrev pub row_by : Numbers → OutRow → OutRow
row_by number (Pane kind key window columns) = Pane kind (number key) window columns
row_by number (Retract key window columns) = Retract (number key) window columns
row_by number (Istream mark columns) = Istream mark columns
row_by number (Dstream mark columns) = Dstream mark columns
row_by number (Rstream mark columns) = Rstream mark columns

-- a query over other keys, which asks of each what the query asks of its number there
abbrev pub with_keys : Numbers → List (List ℕ) → Query → Query
with_keys number keys q = record {
  clock = q.clock;
  declared = record q.declared { keys = keys };
  shape = q.shape;
  mode = q.mode;
  early = q.early;
  late = q.late;
  form = q.form;
  selects = λ key values. q.selects (number key) values;
  row = λ key ds. q.row (number key) (map (datum_by number) ds);
}

-- keys have their order there, and each is declared where its number is
pub record AreNumbers (number : Numbers) (keys : List (List ℕ)) (q : Query) : Type 0 where
  pub rising : (j k : ℕ) → j < k → number j < number k
  pub declared : (key : ℕ) → nat_lt key (length keys) ≡ nat_lt (number key) (length q.declared.keys)

-- the same verdicts and the same rows, each key by its number
pub record SameByNumbers (q : Query) (number : Numbers) (keys : List (List ℕ)) : Type 0 where
  pub verdict : (past : List Event) (e : Event) → verdict_on q (map (event_by number) past) (event_by number e) ≡ verdict_on (with_keys number keys q) past e
  pub rows : (past : List Event) (e : Event) → turn_rows q (map (event_by number) past) (event_by number e) ≡ map (row_by number) (turn_rows (with_keys number keys q) past e)
