-- Worked rows of the law of order: a history in another order, and what each of the law's conditions is
-- for. Histories are written oldest event first.
use Rattle.std.specs.Prelude.{◌≡◌, refl, ℕ, true, List, [], ◌∷◌, filter_map, reverse, pos, Some, codes, false}
use Rattle.wsm_record.specs.declared.event.Value.TheVariants.{Int}
use Rattle.wsm_record.specs.declared.cell.Cell.TheVariants as cells
use Rattle.wsm_record.specs.declared.words.Form.TheVariants as form
use Rattle.wsm_record.specs.declared.words.Mode.TheVariants as mode
use Rattle.wsm_record.specs.Event.{Event, Record, Watermark}
use Rattle.wsm_record.specs.Schema.{Int as Between}
use Rattle.wsm_windows.specs.declared.window.PaneKind.TheVariants.{OnTime}
use Rattle.wsm_windows.specs.declared.window.Shape.TheVariants.{Fixed, Session}
use Rattle.wsm_windows.specs.Windows.{window}
use Rattle.wsm_semantics.specs.declared.out_row.OutRow.{OutRow}
use Rattle.wsm_semantics.specs.declared.out_row.OutRow.TheVariants.{Pane}
use Rattle.wsm_semantics.specs.Query.{Query}
use Rattle.wsm_semantics.specs.Firings.{row_of}
use Rattle.wsm_semantics.specs.Rows.{total, two_sources}
use Rattle.wsm_semantics.specs.Order.{Next, Swap, Then, Permuted, on_time}

abbrev a : ℕ → ℕ → Event
a time n = Record (Some 0) (pos time) (Int (pos n) ∷ [])

abbrev w : ℕ → Event
w time = Watermark (Some 0) (pos time)

-- KEYS a; FIELD n INT 0..100; START 0; SKEW 1000; LATENESS 100; RECORDS 1000;
-- SELECT SUM(n) WINDOW FIXED 60 DISCARDING EMIT PANES;
abbrev base : Query
base = record {
  clock = record { start = pos 0; skew = pos 1000; lateness = pos 100; from_window = false; records = pos 1000 };
  declared = record { keys = codes "a" ∷ []; fields = record { name = codes "n"; type = Between (pos 0) (pos 100) } ∷ []; sources = [] };
  shape = Fixed (pos 60);
  mode = mode.Discarding;
  early = 0;
  late = 0;
  form = form.Panes;
  selects = λ key values. true;
  row = λ key ds. Some (cells.Int (total ds) ∷ []);
}

abbrev sessions : Query
sessions = record base { shape = Session (pos 30) }

-- the rows on time of a watermark after a history
abbrev rows : Query → List Event → ℕ → List OutRow
rows q past time = filter_map (row_of q) (on_time q (reverse past) (w time))

-- a row on time of the window from start to end, with its sum
abbrev sums : ℕ → ℕ → ℕ → List OutRow
sums start end sum = Pane OnTime 0 (window (pos start) (pos end)) (cells.Int (pos sum) ∷ []) ∷ []

-- the second record moves to the front, past a watermark that is refused and the first record
a_record_comes_sooner : Permuted base (reverse (a 5 1 ∷ w 0 ∷ a 7 2 ∷ w 60 ∷ [])) (reverse (a 7 2 ∷ a 5 1 ∷ w 0 ∷ w 60 ∷ []))
a_record_comes_sooner = Next _ _ _ (Then _ _ _ (Swap _ _ _ refl refl) (Next _ _ _ (Swap _ _ _ refl refl)))

they_fire_the_same : rows base (a 5 1 ∷ w 0 ∷ a 7 2 ∷ []) 60 ≡ rows base (a 7 2 ∷ a 5 1 ∷ w 0 ∷ []) 60
they_fire_the_same = refl

-- discarding with an early count: the early firing shows the first two records, whichever these are
early_shows_the_first_two : rows (record base { early = 2 }) (a 5 1 ∷ a 6 2 ∷ a 7 4 ∷ []) 60 ≡ sums 0 60 4
early_shows_the_first_two = refl

early_shows_another_two : rows (record base { early = 2 }) (a 7 4 ∷ a 6 2 ∷ a 5 1 ∷ []) 60 ≡ sums 0 60 1
early_shows_another_two = refl

-- discarding sessions with a late count: a late firing shows a record of a session that then is moved on
late_shows_the_first : rows (record sessions { late = 1 }) (w 40 ∷ a 0 1 ∷ a 20 2 ∷ []) 60 ≡ sums 0 50 2
late_shows_the_first = refl

late_shows_none : rows (record sessions { late = 1 }) (w 40 ∷ a 20 2 ∷ a 0 1 ∷ []) 60 ≡ sums 0 50 3
late_shows_none = refl

-- with no late count these sessions fire the same
without_late_the_same : rows sessions (w 40 ∷ a 0 1 ∷ a 20 2 ∷ []) 60 ≡ rows sessions (w 40 ∷ a 20 2 ∷ a 0 1 ∷ []) 60
without_late_the_same = refl

-- accumulating, with both counts, they fire the same too
accumulating_the_same : rows (record sessions { mode = mode.Accumulating; early = 1; late = 1 }) (w 40 ∷ a 0 1 ∷ a 20 2 ∷ []) 60
    ≡ rows (record sessions { mode = mode.Accumulating; early = 1; late = 1 }) (w 40 ∷ a 20 2 ∷ a 0 1 ∷ []) 60
accumulating_the_same = refl

-- ---- two sources

abbrev w_of : ℕ → ℕ → Event
w_of source time = Watermark (Some source) (pos time)

-- SOURCES x, y
abbrev two : Query
two = two_sources base

-- a watermark that the other source holds back moves before a record
a_watermark_comes_sooner : Permuted two (reverse (a 5 1 ∷ w_of 0 90 ∷ w_of 1 60 ∷ [])) (reverse (w_of 0 90 ∷ a 5 1 ∷ w_of 1 60 ∷ []))
a_watermark_comes_sooner = Next _ _ _ (Swap _ _ _ refl refl)

it_fires_the_same : filter_map (row_of two) (on_time two (reverse (a 5 1 ∷ w_of 0 90 ∷ [])) (w_of 1 60)) ≡ sums 0 60 1
it_fires_the_same = refl
