-- The law by key: a part of a history has the records of some keys and all watermarks, and what it
-- fires and holds is what the whole history fires and holds for these keys. So a query over many keys may
-- be run as several, each over some of them. That panes are of one key is the grouping of the Dataflow
-- Model (Akidau et al. 2015); the relation and its streams are those of CQL (Arasu et al. 2006). What is
-- counted over all keys, and the verdicts, are this project's own rules.
use Rattle.std.specs.Prelude.{◌≡◌, ◌≢◌, ℕ, suc, ◌+◌, ◌*◌, Bool, true, false, ◌||◌, not, List, [], ◌∷◌, length, map, filter, flat_map, ℤ, nat_lt, Option, Some, if◌then◌else◌}
use Rattle.std.specs.List.{sum_by}
use Rattle.wsm_record.specs.declared.cell.Cell.{Cell}
use Rattle.wsm_record.specs.declared.words.Form.{Form}
use Rattle.wsm_record.specs.declared.words.Form.TheVariants as form
use Rattle.wsm_record.specs.Event.{Event, Record, Watermark}
use Rattle.wsm_windows.specs.declared.place.Place.{Place}
use Rattle.wsm_admission.specs.declared.verdict.Refusal.TheVariants.{RecordLimit}
use Rattle.wsm_admission.specs.Clock.{admitted_count, late_count, refused_count}
use Rattle.wsm_semantics.specs.declared.out_row.OutRow.{OutRow}
use Rattle.wsm_semantics.specs.declared.out_row.OutRow.TheVariants.{Pane, Retract, Istream, Dstream, Rstream}
use Rattle.wsm_semantics.specs.Query.{Datum, Query, mark, raises, verdict_on}
use Rattle.wsm_semantics.specs.Panes.{held}
use Rattle.wsm_semantics.specs.Firings.{Firing, firings, firings_so_far}
use Rattle.wsm_semantics.specs.Relation.{sorted_rows, difference, relation, turn_rows}

-- ---- a part of a history

-- which keys a part has, and whether it has the records of no declared key, which are asked as None
abbrev pub Keys : Type 0
Keys = Option ℕ → Bool

-- the keys of the other part
abbrev pub others : Keys → Keys
others keys key = not (keys key)

-- an event is of a part: a record of a key by that key, a watermark of each part
abbrev pub is_of : Keys → Event → Bool
is_of keys (Record key time values) = keys key
is_of keys (Watermark source time) = true

-- a history without the records of other keys
abbrev pub of_keys : Keys → List Event → List Event
of_keys keys past = filter (is_of keys) past

-- what is said of an event that is of the part, and nothing of another
abbrev pub where_of : {A : Type 0} → Keys → Event → List A → List A
where_of keys e xs = if is_of keys e then xs else []

-- no record of a history was refused for RECORDS, which counts all keys
abbrev pub HasRoom : Query → List Event → Type 0
HasRoom q [] = Unit {0}
HasRoom q (e ∷ past) = (verdict_on q past e ≢ Some RecordLimit) × HasRoom q past

-- ---- its turns

-- the turn that an event of a part has in the whole history
abbrev pub turn_of : Keys → List Event → ℕ → ℕ
turn_of keys [] n = n
turn_of keys (e ∷ past) n = let m = turn_of keys past n in if is_of keys e || nat_lt n (length (of_keys keys past)) then m else suc m

abbrev pub at_turn : (ℕ → ℕ) → Datum → Datum
at_turn f d = record d { turn = f d.turn }

abbrev pub pane_at : (ℕ → ℕ) → Place × List Datum → Place × List Datum
pane_at f p = (p.0, map (at_turn f) p.1)

abbrev pub firing_at : (ℕ → ℕ) → Firing → Firing
firing_at f g = record { turn = f g.turn; kind = g.kind; place = g.place; contents = map (at_turn f) g.contents; fired = map (at_turn f) g.fired }

-- the columns of some records don't go by their turns
abbrev pub IgnoresTurns : Query → Type 0
IgnoresTurns q = (f : ℕ → ℕ) (key : ℕ) (ds : List Datum) → q.row key (map (at_turn f) ds) ≡ q.row key ds

-- ---- what is of some keys

abbrev pub is_at : Keys → Place → Bool
is_at keys p = keys (Some p.key)

-- the rows of streams have no key
abbrev pub is_row_of : Keys → OutRow → Bool
is_row_of keys (Pane kind key window columns) = keys (Some key)
is_row_of keys (Retract key window columns) = keys (Some key)
is_row_of keys _ = false

-- each event has the verdict that it has in the whole
abbrev pub SameVerdicts : Query → Keys → Type 0
SameVerdicts q keys = (past : List Event) (e : Event) → HasRoom q (e ∷ past) → verdict_on q (of_keys keys past) e ≡ verdict_on q past e

-- a part of a history in which none is refused for RECORDS is such a history, and so may be parted again;
-- it has the watermark of the whole, each event has the verdict that it has there, and for the keys of
-- the part the same is held, and on the turn of each of its events the same fires; on that of another nothing
pub record ByKey (q : Query) (keys : Keys) : Type 0 where
  pub room : (past : List Event) → HasRoom q past → HasRoom q (of_keys keys past)
  pub mark : (past : List Event) → mark q (of_keys keys past) ≡ mark q past
  pub verdict : SameVerdicts q keys
  pub held : (past : List Event) → HasRoom q past → filter (λ p. is_at keys p.0) (held q past) ≡ map (pane_at (turn_of keys past)) (held q (of_keys keys past))
  pub firings : (past : List Event) (e : Event) → HasRoom q (e ∷ past) →
      filter (λ f. is_at keys f.place) (firings q past e) ≡ where_of keys e (map (firing_at (turn_of keys past)) (firings q (of_keys keys past) e))

-- and the same rows are written, of panes and of those that are withdrawn
abbrev pub RowsByKey : Query → Keys → Type 0
RowsByKey q keys = (past : List Event) (e : Event) → HasRoom q (e ∷ past) → filter (is_row_of keys) (turn_rows q past e) ≡ where_of keys e (turn_rows q (of_keys keys past) e)

-- ---- the relation of parts

-- each key, and the records of no declared one, are of one of some parts
abbrev pub EachOnce : List Keys → Type 0
EachOnce parts = (key : Option ℕ) → length (filter (λ keys. keys key) parts) ≡ 1

-- what is told of the parts of a history, together
abbrev pub of_parts : {A : Type 0} → List Keys → List Event → (List Event → List A) → List A
of_parts parts past told = flat_map (λ keys. told (of_keys keys past)) parts

-- the rows of a bag in order, each as often as another has it less
abbrev pub netted : List (List Cell) → List (List Cell) → List (List Cell)
netted rows taken = sorted_rows (difference rows taken)

-- what the relation gains by an event, and what it loses
abbrev pub gains : Query → List Event → Event → List (List Cell)
gains q past e = difference (relation q (e ∷ past)) (relation q past)

abbrev pub losses : Query → List Event → Event → List (List Cell)
losses q past e = difference (relation q past) (relation q (e ∷ past))

-- the rows of a stream at a mark, of what the relation gains, loses and has
abbrev pub rows_of_stream : Form → ℤ → List (List Cell) → List (List Cell) → List (List Cell) → List OutRow
rows_of_stream form.Panes mark gained lost all = []
rows_of_stream form.Istream mark gained lost all = map (Istream mark) gained
rows_of_stream form.Dstream mark gained lost all = map (Dstream mark) lost
rows_of_stream form.Rstream mark gained lost all = map (Rstream mark) all

-- a rise writes what the relation gains, loses or has
abbrev pub StreamsWrite : Query → Type 0
StreamsWrite q = (past : List Event) (e : Event) → q.form ≢ form.Panes → raises q past e ≡ true → turn_rows q past e ≡ rows_of_stream q.form (mark q (e ∷ past)) (gains q past e) (losses q past e) (relation q (e ∷ past))

-- the relation has the rows of those of all parts
abbrev pub RelationsAddUp : Query → List Keys → Type 0
RelationsAddUp q parts = (past : List Event) → HasRoom q past → relation q past ≡ sorted_rows (of_parts parts past (relation q))

-- at a rise, rows of the whole are those of the parts, each as often as other rows of theirs don't have it
abbrev pub AreNetted : (Query → List Event → Event → List (List Cell)) → (Query → List Event → Event → List (List Cell)) → Query → List Keys → Type 0
AreNetted rows others q parts = (past : List Event) (e : Event) → HasRoom q (e ∷ past) → raises q past e ≡ true →
    rows q past e ≡ netted (of_parts parts past (λ part. rows q part e)) (of_parts parts past (λ part. others q part e))

-- where each key is of one of some parts, the relation has the rows of all of theirs; and at a rise it
-- gains what they gain, each row as often as they don't lose it then, and loses what they lose, as
-- often as they don't gain it
pub record PartsAddUp (q : Query) (parts : List Keys) : Type 0 where
  pub together : RelationsAddUp q parts
  pub gained : AreNetted gains losses q parts
  pub lost : AreNetted losses gains q parts

-- ---- the numbers of the end row

-- a number of the parts of a history, together
abbrev pub sum_of_parts : List Keys → List Event → (List Event → ℕ) → ℕ
sum_of_parts parts past number = sum_by (λ keys. number (of_keys keys past)) parts

-- the keys of the part that has the watermarks alone
abbrev pub no_keys : Keys
no_keys key = false

-- a number of the parts is together that of the whole
abbrev pub AddsUp : Query → List Keys → (List Event → ℕ) → Type 0
AddsUp q parts number = (past : List Event) → HasRoom q past → sum_of_parts parts past number ≡ number past

-- a number of the parts is together that of the whole, where that of the watermarks is counted once for
-- each part
abbrev pub AddsUpButWatermarks : List Keys → List Event → (List Event → ℕ) → Type 0
AddsUpButWatermarks parts past number = sum_of_parts parts past number + number (of_keys no_keys past) ≡ number past + length parts * number (of_keys no_keys past)

-- where each key is of one of some parts, so many events were read, admitted, late and refused in all of them,
-- and so many panes fired, as in the whole, but that each part has all watermarks
pub record NumbersAddUp (q : Query) (parts : List Keys) : Type 0 where
  pub events : (past : List Event) → AddsUpButWatermarks parts past length
  pub admitted : AddsUp q parts (admitted_count q.clock q.shape q.declared)
  pub late : AddsUp q parts (late_count q.clock q.shape q.declared)
  pub refused : (past : List Event) → HasRoom q past → AddsUpButWatermarks parts past (refused_count q.clock q.shape q.declared)
  pub fired : AddsUp q parts (λ part. length (firings_so_far q part))

-- ---- another number of RECORDS

abbrev pub with_records : ℤ → Query → Query
with_records records q = record q { clock = record q.clock { records = records } }

-- where by neither number one is refused for it, events have the same verdicts, and the same is held, fires and
-- is written
pub record SameByRecords (q : Query) (records : ℤ) : Type 0 where
  pub verdict : (past : List Event) (e : Event) → HasRoom q (e ∷ past) → HasRoom (with_records records q) (e ∷ past) → verdict_on (with_records records q) past e ≡ verdict_on q past e
  pub held : (past : List Event) → HasRoom q past → HasRoom (with_records records q) past → held (with_records records q) past ≡ held q past
  pub firings : (past : List Event) (e : Event) → HasRoom q (e ∷ past) → HasRoom (with_records records q) (e ∷ past) → firings (with_records records q) past e ≡ firings q past e
  pub rows : (past : List Event) (e : Event) → HasRoom q (e ∷ past) → HasRoom (with_records records q) (e ∷ past) → turn_rows (with_records records q) past e ≡ turn_rows q past e
