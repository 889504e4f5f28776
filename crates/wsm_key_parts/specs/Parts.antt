-- A query over any number of keys, run by parts: a front decides on each event, and each part has so many keys. A part is opened
-- by its first record that is taken. It is fed those of its keys, by their places in it, and all watermarks that are taken from then
-- on, behind some that bring it to the marks as they are. This division is this project's own rule.
use Rattle.std.specs.Prelude.{◌≡◌, ℕ, ◌+◌, ◌*◌, ◌/◌, ◌%◌, ◌<◌, ◌≤◌, ◌≤ℤ◌, ℤ, pos, true, false, List, [], ◌∷◌, ◌++◌, length, unsigned_abs, map, nat_eq, nat_lt, Option, Some, None, Result, Ok, Err, if◌then◌else◌}
use Rattle.std.specs.List.{range_with_len, sum_by}
use Rattle.wsm_record.specs.declared.event.Value.{Value}
use Rattle.wsm_record.specs.Event.{Event, Record, Watermark}
use Rattle.wsm_record.specs.declared.words.Form.TheVariants.{Panes}
use Rattle.wsm_windows.specs.Windows.{IsShape}
use Rattle.wsm_admission.specs.declared.verdict.Admitted.{Admitted}
use Rattle.wsm_admission.specs.declared.verdict.Refusal.{Refusal}
use Rattle.wsm_admission.specs.Clock.{verdict_at}
use Rattle.wsm_admission.specs.Admission.{State, Fits, opened, counter, decision, after}
use Rattle.wsm_semantics.specs.declared.out_row.OutRow.{OutRow}
use Rattle.wsm_semantics.specs.Query.{Datum, Query, SessionsByEvent, verdict_on}
use Rattle.wsm_semantics.specs.Firings.{firings, firings_so_far}
use Rattle.wsm_semantics.specs.Relation.{turn_rows}
use Rattle.wsm_semantics.specs.ByKey.{Keys, IgnoresTurns, is_of}
use Rattle.wsm_semantics.specs.ByNumber.{Numbers, datum_by, event_by, row_by, with_keys}
use Rattle.wsm_semantics.specs.Lines.{Row, Line, Out, Faulty, End, events, refusal_lines, turn_lines, end_line}
use Rattle.wsm_key_parts.specs.Merged.{merged}
use Rattle.wsm_key_parts.specs.OpenedLate.{openers}

-- ---- queries that parts may run

-- one that writes panes, whose columns don't go by turns; all but the last two is of each query that is checked
pub record MayBeParted (q : Query) : Type 0 where
  pub shape : IsShape q.shape
  pub sessions : SessionsByEvent q
  pub lateness : pos 0 ≤ℤ q.clock.lateness
  pub panes : q.form ≡ Panes
  pub turns : IgnoresTurns q

-- there are places in a part, and it may admit as many records as the query
pub record AreFor (places : List (List ℕ)) (records : ℤ) (q : Query) : Type 0 where
  pub some : 0 < length places
  pub room : unsigned_abs q.clock.records ≤ unsigned_abs records

-- one that doesn't go by keys: neither WHERE nor a column has one
pub record IgnoresKeys (q : Query) : Type 0 where
  pub selects : (j k : ℕ) (values : List Value) → q.selects j values ≡ q.selects k values
  pub row : (number : Numbers) (j k : ℕ) (ds : List Datum) → q.row j (map (datum_by number) ds) ≡ q.row k ds

-- ---- the keys of a part

-- so many numbers, one after the other; a record of no key is of no part
abbrev pub keys_in : ℕ → ℕ → Keys
keys_in block part None = false
keys_in block part (Some n) = nat_eq part (n / block)

-- an event with its key by its place in the part
abbrev pub placed : ℕ → Event → Event
placed block e = event_by (λ n. n % block) e

-- the number among all keys of a place in a part; what is no place of it goes past them all
abbrev pub number_in : ℕ → ℕ → ℕ → Numbers
number_in block all part place = if nat_lt place block then part * block + place else all * block + place

-- the query with other keys declared, and another number of RECORDS
abbrev pub over : List (List ℕ) → ℤ → Query → Query
over keys records q = record q { clock = record q.clock { records = records }; declared = record q.declared { keys = keys } }

-- the query that a part runs: its places are its keys, and it has a RECORDS of its own
abbrev pub query_in : List (List ℕ) → ℤ → Query → ℕ → Query
query_in places records q part = over places records (with_keys (number_in (length places) (length q.declared.keys) part) places q)

-- ---- the front

-- all declared keys, and what is of none
abbrev pub declared_keys : Query → Keys
declared_keys q None = true
declared_keys q (Some n) = nat_lt n (length q.declared.keys)

-- the front may decide on an event by its place in its part, and by what declares places for keys: it answers the same, and keeps the same
pub record DecidesByPlaces (places : List (List ℕ)) (q : Query) : Type 0 where
  pub decision : (s : State) (e : Event) → is_of (declared_keys q) e ≡ true →
      decision q.shape (record q.declared { keys = places }) s (placed (length places) e) ≡ decision q.shape q.declared s e
  pub after : (s : State) (e : Event) (r : Result Admitted Refusal) → after r (placed (length places) e) s ≡ after r e s

-- ---- what a part is fed

-- what a part was fed before an event of its own: a record opens it, and a watermark doesn't
abbrev pub fed_before : ℤ → List ℤ → Event → List Event → Option (List Event)
fed_before start marks (Record key time values) [] = Some (openers start 0 marks)
fed_before start marks (Record key time values) (f ∷ fed) = Some (f ∷ fed)
fed_before start marks (Watermark source time) [] = None
fed_before start marks (Watermark source time) (f ∷ fed) = Some (f ∷ fed)

abbrev pub fed_after : Event → List Event → Option (List Event) → List Event
fed_after e fed None = fed
fed_after e fed (Some before) = e ∷ before

-- ---- the front and its parts

-- what the front keeps, how many rows it read, how many of them were no events, how many panes fired, and what each part was
-- fed, the newest first: nothing where it isn't opened
pub record Parts : Type 0 where
  pub front : State
  pub read : ℕ
  pub faulty : ℕ
  pub fired : ℕ
  pub fed : ℕ → List Event

module _ (places : List (List ℕ)) (records : ℤ) (q : Query) where
  abbrev pub unopened : Parts
  unopened = record { front = opened q.clock q.declared; read = 0; faulty = 0; fired = 0; fed = λ part. [] }

  -- each key is of one of these
  abbrev pub all_parts : List ℕ
  all_parts = range_with_len 0 (length q.declared.keys)

  abbrev pub verdict_by : Parts → Event → Option Refusal
  verdict_by s e = verdict_at q.clock q.shape q.declared s.front.marks s.front.admitted e

  -- what a part was fed before an event that is taken, where it is fed the event
  abbrev pub before_in : Parts → Event → ℕ → Option (List Event)
  before_in s e part = if is_of (keys_in (length places) part) e then fed_before q.clock.start s.front.marks e (s.fed part) else None

  -- the rows that a part writes for an event, each key by its number among all
  abbrev pub rows_in : ℕ → Event → Option (List Event) → List OutRow
  rows_in part e None = []
  rows_in part e (Some before) =
      map (row_by (number_in (length places) (length q.declared.keys) part)) (turn_rows (query_in places records q part) before (placed (length places) e))

  -- how many panes fire there
  abbrev pub fired_in : ℕ → Event → Option (List Event) → ℕ
  fired_in part e None = 0
  fired_in part e (Some before) = length (firings (query_in places records q part) before (placed (length places) e))

  -- the rows of the parts for an event that is taken; for a refused one there are none
  abbrev pub rows_by : Parts → Event → Option Refusal → List OutRow
  rows_by s e None = merged (λ part. rows_in part e (before_in s e part)) all_parts
  rows_by s e (Some why) = []

  abbrev pub fired_by : Parts → Event → Option Refusal → ℕ
  fired_by s e None = sum_by (λ part. fired_in part e (before_in s e part)) all_parts
  fired_by s e (Some why) = 0

  abbrev pub fed_by : Parts → Event → Option Refusal → ℕ → List Event
  fed_by s e None part = fed_after (placed (length places) e) (s.fed part) (before_in s e part)
  fed_by s e (Some why) part = s.fed part

  -- the turn of a row
  abbrev pub part_turn : Parts → Row → Parts
  part_turn s (Err fault) = record s { read = s.read + 1; faulty = s.faulty + 1 }
  part_turn s (Ok e) = record {
    front = after (decision q.shape q.declared s.front e) e s.front;
    read = s.read + 1;
    faulty = s.faulty;
    fired = s.fired + fired_by s e (verdict_by s e);
    fed = fed_by s e (verdict_by s e);
  }

  -- what is written on it
  abbrev pub part_lines : Parts → Row → List Line
  part_lines s (Err fault) = Faulty (counter (s.read + 1)) fault ∷ []
  part_lines s (Ok e) = refusal_lines (counter (s.read + 1)) (verdict_by s e) ++ map Out (rows_by s e (verdict_by s e))

  -- and at the end
  abbrev pub part_end : Parts → Line
  part_end s = End (counter s.read) (counter s.front.admitted) s.front.late (counter (s.faulty + s.front.refused)) (counter s.fired)

  -- behind some rows, of which the newest stands first
  abbrev pub after_rows : List Row → Parts
  after_rows [] = unopened
  after_rows (row ∷ rows) = part_turn (after_rows rows) row

  -- line by line the parts write what the query over all keys writes, with its verdicts and rows; what the front keeps and how many
  -- panes fired is that of the history; and what a part is fed it takes
  pub record WritesTogether : Type 0 where
    pub lines : (before : List Row) (row : Row) → part_lines (after_rows before) row ≡ turn_lines q before row
    pub end : (rows : List Row) → part_end (after_rows rows) ≡ end_line q rows
    pub verdict : (before : List Row) (e : Event) → verdict_by (after_rows before) e ≡ verdict_on q (events before) e
    pub rows : (before : List Row) (e : Event) → rows_by (after_rows before) e (verdict_by (after_rows before) e) ≡ turn_rows q (events before) e
    pub clock : (rows : List Row) → (after_rows rows).front.clock ≡ q.clock
    pub front : (rows : List Row) → Fits q.shape q.declared (after_rows rows).front (events rows)
    pub fired : (rows : List Row) → (after_rows rows).fired ≡ length (firings_so_far q (events rows))
    pub taken : (rows : List Row) (e : Event) → verdict_by (after_rows rows) e ≡ None → (part : ℕ) → part < length q.declared.keys →
        (before : List Event) → before_in (after_rows rows) e part ≡ Some before →
        verdict_on (query_in places records q part) before (placed (length places) e) ≡ None
