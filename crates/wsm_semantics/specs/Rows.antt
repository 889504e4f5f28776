-- Worked rows, computed by the definitions. Inputs are written as they are read, the oldest row first.
use Rattle.std.specs.Prelude.{◌≡◌, refl, ℕ, true, List, [], ◌∷◌, reverse, map, length, ℤ, pos, negsuc, ◌+ℤ◌, int_lt, Some, None, Ok, Err, codes, if◌then◌else◌, false}
use Rattle.wsm_record.specs.declared.event.Value.{Value}
use Rattle.wsm_record.specs.declared.event.Value.TheVariants.{Int}
use Rattle.wsm_record.specs.declared.cell.Cell.{Cell}
use Rattle.wsm_record.specs.declared.cell.Cell.TheVariants as cells
use Rattle.wsm_record.specs.declared.event.RowFault.TheVariants.{BadTag, CellCount, BadNumber}
use Rattle.wsm_record.specs.declared.words.Form.TheVariants as form
use Rattle.wsm_record.specs.declared.words.Mode.TheVariants as mode
use Rattle.wsm_record.specs.Event.{Record, Watermark}
use Rattle.wsm_record.specs.Schema.{Int as Between}
use Rattle.wsm_windows.specs.declared.window.PaneKind.{PaneKind}
use Rattle.wsm_windows.specs.declared.window.PaneKind.TheVariants.{Early, OnTime, Late, Final}
use Rattle.wsm_windows.specs.declared.window.Shape.TheVariants.{Fixed, Sliding, Session}
use Rattle.wsm_windows.specs.Windows.{window}
use Rattle.wsm_admission.specs.declared.verdict.Refusal.TheVariants as refusal
use Rattle.wsm_semantics.specs.declared.out_row.OutRow.TheVariants.{Pane, Retract, Istream, Dstream, Rstream}
use Rattle.wsm_semantics.specs.Query.{Datum, Query}
use Rattle.wsm_semantics.specs.Lines.{Row, Line, Out, Faulty, Refused, End, all_lines}

abbrev pub first_value : List Value → ℤ
first_value (Int n ∷ vs) = n
first_value _ = pos 0

abbrev pub total : List Datum → ℤ
total [] = pos 0
total (d ∷ ds) = total ds +ℤ first_value d.values

abbrev pub count : List Datum → Cell
count ds = cells.Int (pos (length ds))

-- KEYS a, b; FIELD n INT 0..100; START 0; SKEW 100; LATENESS 10; RECORDS 1000;
-- SELECT COUNT(*), SUM(n) WINDOW FIXED 60 ACCUMULATING EMIT PANES;
abbrev pub base : Query
base = record {
  clock = record { start = pos 0; skew = pos 100; lateness = pos 10; from_window = false; records = pos 1000 };
  declared = record {
    keys = codes "a" ∷ codes "b" ∷ [];
    fields = record { name = codes "n"; type = Between (pos 0) (pos 100) } ∷ [];
    sources = [];
  };
  shape = Fixed (pos 60);
  mode = mode.Accumulating;
  early = 0;
  late = 0;
  form = form.Panes;
  selects = λ key values. true;
  row = λ key ds. Some (count ds ∷ cells.Int (total ds) ∷ []);
}

abbrev pub with_lateness : ℕ → Query → Query
with_lateness l q = record q { clock = record q.clock { lateness = pos l } }

-- SELECT COUNT(*)
abbrev pub counting : Query
counting = record base { row = λ key ds. Some (count ds ∷ []) }

-- rows of the keys a and b, and of watermarks
abbrev pub a : ℕ → ℕ → Row
a time n = Ok (Record (Some 0) (pos time) (Int (pos n) ∷ []))

abbrev pub b : ℕ → ℕ → Row
b time n = Ok (Record (Some 1) (pos time) (Int (pos n) ∷ []))

abbrev pub w_of : ℕ → ℕ → Row
w_of source time = Ok (Watermark (Some source) (pos time))

abbrev pub w : ℕ → Row
w time = w_of 0 time

abbrev pub ints : List ℕ → List Cell
ints ns = map (λ n. cells.Int (pos n)) ns

abbrev pane : PaneKind → ℕ → ℕ → ℕ → List ℕ → Line
pane kind key start end columns = Out (Pane kind key (window (pos start) (pos end)) (ints columns))

abbrev retract : ℕ → ℕ → ℕ → List ℕ → Line
retract key start end columns = Out (Retract key (window (pos start) (pos end)) (ints columns))

abbrev written : Query → List Row → List Line
written q rows = all_lines q (reverse rows)

empty_input : written base [] ≡ End 0 0 0 0 0 ∷ []
empty_input = refl

two_records_in_one_pane : written base (a 5 7 ∷ a 59 3 ∷ w 60 ∷ []) ≡ pane OnTime 0 0 60 (2 ∷ 10 ∷ []) ∷ End 3 2 0 0 1 ∷ []
two_records_in_one_pane = refl

end_of_a_window_is_outside : written base (a 60 1 ∷ w 60 ∷ []) ≡ End 2 1 0 0 0 ∷ []
end_of_a_window_is_outside = refl

late_record_is_counted : written base (w 60 ∷ a 49 4 ∷ a 50 6 ∷ w 70 ∷ []) ≡ pane Final 0 0 60 (1 ∷ 6 ∷ []) ∷ End 4 1 1 0 1 ∷ []
late_record_is_counted = refl

too_far_ahead_is_refused : written base (a 100 1 ∷ a 101 1 ∷ []) ≡ Refused 2 refusal.TooFarAhead ∷ End 2 1 0 1 0 ∷ []
too_far_ahead_is_refused = refl

panes_fire_once :
    written base (a 5 1 ∷ a 65 2 ∷ w 20 ∷ a 120 4 ∷ w 1000 ∷ [])
    ≡ pane OnTime 0 0 60 (1 ∷ 1 ∷ []) ∷ pane OnTime 0 60 120 (1 ∷ 2 ∷ []) ∷ pane OnTime 0 120 180 (1 ∷ 4 ∷ []) ∷ End 5 3 0 0 3 ∷ []
panes_fire_once = refl

exactly_a_gap_apart_are_two_sessions :
    written (record base { shape = Session (pos 30) }) (a 10 1 ∷ a 40 2 ∷ w 100 ∷ [])
    ≡ pane OnTime 0 10 40 (1 ∷ 1 ∷ []) ∷ pane OnTime 0 40 70 (1 ∷ 2 ∷ []) ∷ End 3 2 0 0 2 ∷ []
exactly_a_gap_apart_are_two_sessions = refl

late_record_opens_no_session :
    written (with_lateness 0 (record base { shape = Session (pos 30) })) (a 10 1 ∷ w 40 ∷ a 39 2 ∷ a 40 3 ∷ w 70 ∷ [])
    ≡ pane OnTime 0 10 40 (1 ∷ 1 ∷ []) ∷ pane OnTime 0 40 70 (1 ∷ 3 ∷ []) ∷ End 5 2 1 0 2 ∷ []
late_record_opens_no_session = refl

a_record_joins_two_sessions :
    written (record base { shape = Session (pos 30) }) (a 0 1 ∷ a 40 2 ∷ a 20 4 ∷ w 70 ∷ []) ≡ pane OnTime 0 0 70 (3 ∷ 7 ∷ []) ∷ End 4 3 0 0 1 ∷ []
a_record_joins_two_sessions = refl

a_joined_session_fires_early :
    written (record base { shape = Session (pos 30); early = 4 }) (a 0 1 ∷ a 1 1 ∷ a 40 1 ∷ a 41 1 ∷ a 20 1 ∷ [])
    ≡ pane Early 0 0 71 (5 ∷ 5 ∷ []) ∷ End 5 5 0 0 1 ∷ []
a_joined_session_fires_early = refl

discarding_shows_a_record_once :
    written (record base { mode = mode.Discarding; early = 2 }) (a 1 2 ∷ a 2 3 ∷ w 60 ∷ []) ≡ pane Early 0 0 60 (2 ∷ 5 ∷ []) ∷ End 3 2 0 0 1 ∷ []
discarding_shows_a_record_once = refl

accumulating_shows_it_again :
    written (record base { early = 2 }) (a 1 2 ∷ a 2 3 ∷ w 60 ∷ [])
    ≡ pane Early 0 0 60 (2 ∷ 5 ∷ []) ∷ pane OnTime 0 0 60 (2 ∷ 5 ∷ []) ∷ End 3 2 0 0 2 ∷ []
accumulating_shows_it_again = refl

sliding_windows_start_before_0 :
    written (record base { shape = Sliding (pos 60) (pos 25) }) (a 5 1 ∷ w 35 ∷ [])
    ≡ Out (Pane OnTime 0 (window (negsuc 49) (pos 10)) (ints (1 ∷ 1 ∷ []))) ∷ Out (Pane OnTime 0 (window (negsuc 24) (pos 35)) (ints (1 ∷ 1 ∷ []))) ∷ End 2 1 0 0 2 ∷ []
sliding_windows_start_before_0 = refl

equal_rows_are_gained_each :
    written (with_lateness 0 (record counting { form = form.Istream })) (a 1 1 ∷ b 2 1 ∷ w 60 ∷ w 61 ∷ [])
    ≡ Out (Istream (pos 60) (ints (1 ∷ []))) ∷ Out (Istream (pos 60) (ints (1 ∷ []))) ∷ End 4 2 0 0 2 ∷ []
equal_rows_are_gained_each = refl

equal_rows_are_lost_each :
    written (with_lateness 0 (record counting { form = form.Dstream })) (a 1 1 ∷ b 2 1 ∷ w 60 ∷ w 61 ∷ [])
    ≡ Out (Dstream (pos 61) (ints (1 ∷ []))) ∷ Out (Dstream (pos 61) (ints (1 ∷ []))) ∷ End 4 2 0 0 2 ∷ []
equal_rows_are_lost_each = refl

nothing_stands_for_a_session_just_joined :
    written (with_lateness 100 (record counting { shape = Session (pos 30); form = form.Rstream })) (a 0 1 ∷ a 40 1 ∷ w 70 ∷ a 20 1 ∷ w 80 ∷ w 170 ∷ [])
    ≡ Out (Rstream (pos 70) (ints (1 ∷ []))) ∷ Out (Rstream (pos 70) (ints (1 ∷ []))) ∷ Out (Rstream (pos 170) (ints (3 ∷ []))) ∷ End 6 3 0 0 3 ∷ []
nothing_stands_for_a_session_just_joined = refl

-- SELECT COUNT(*) HAVING SUM(n) > 5
having_false_writes_no_row :
    written (record base { row = λ key ds. if int_lt (pos 5) (total ds) then Some (count ds ∷ []) else None }) (a 1 5 ∷ b 1 6 ∷ w 60 ∷ [])
    ≡ pane OnTime 1 0 60 (1 ∷ []) ∷ End 3 2 0 0 2 ∷ []
having_false_writes_no_row = refl

the_first_rule_refuses :
    written (record base { clock = record base.clock { records = pos 2 } })
    (a 1 1 ∷ a 2 1 ∷ a 3 1 ∷ Ok (Record None (pos 1) (Int (pos 1) ∷ [])) ∷ a 1 101 ∷ w 5 ∷ w 5 ∷ [])
    ≡ Refused 3 refusal.RecordLimit ∷ Refused 4 refusal.UnknownKey ∷ Refused 5 refusal.FieldRange ∷ Refused 7 refusal.NotRising ∷ End 7 2 0 4 0 ∷ []
the_first_rule_refuses = refl

faulty_rows_are_refused :
    written base (Err BadTag ∷ Err CellCount ∷ Err BadNumber ∷ []) ≡ Faulty 1 BadTag ∷ Faulty 2 CellCount ∷ Faulty 3 BadNumber ∷ End 3 0 0 3 0 ∷ []
faulty_rows_are_refused = refl

late_and_final_panes :
    written (record base { late = 2 }) (a 55 1 ∷ w 60 ∷ a 56 2 ∷ a 57 3 ∷ a 58 4 ∷ w 70 ∷ [])
    ≡ pane OnTime 0 0 60 (1 ∷ 1 ∷ []) ∷ pane Late 0 0 60 (3 ∷ 6 ∷ []) ∷ pane Final 0 0 60 (4 ∷ 10 ∷ []) ∷ End 6 4 0 0 3 ∷ []
late_and_final_panes = refl

late_and_final_panes_of_unshown_records :
    written (record base { mode = mode.Discarding; late = 2 }) (a 55 1 ∷ w 60 ∷ a 56 2 ∷ a 57 3 ∷ a 58 4 ∷ w 70 ∷ [])
    ≡ pane OnTime 0 0 60 (1 ∷ 1 ∷ []) ∷ pane Late 0 0 60 (2 ∷ 5 ∷ []) ∷ pane Final 0 0 60 (1 ∷ 4 ∷ []) ∷ End 6 4 0 0 3 ∷ []
late_and_final_panes_of_unshown_records = refl

a_later_firing_withdraws_an_earlier :
    written (record base { mode = mode.Retracting; early = 2 }) (a 1 2 ∷ a 2 3 ∷ w 60 ∷ [])
    ≡ pane Early 0 0 60 (2 ∷ 5 ∷ []) ∷ retract 0 0 60 (2 ∷ 5 ∷ []) ∷ pane OnTime 0 0 60 (2 ∷ 5 ∷ []) ∷ End 3 2 0 0 2 ∷ []
a_later_firing_withdraws_an_earlier = refl

a_join_withdraws_what_stood_for_both :
    written (with_lateness 100 (record counting { shape = Session (pos 30); mode = mode.Retracting })) (a 0 1 ∷ a 40 1 ∷ w 70 ∷ a 20 1 ∷ w 170 ∷ [])
    ≡ pane OnTime 0 0 30 (1 ∷ []) ∷ pane OnTime 0 40 70 (1 ∷ []) ∷ retract 0 0 30 (1 ∷ []) ∷ retract 0 40 70 (1 ∷ []) ∷ pane Final 0 0 70 (3 ∷ []) ∷ End 5 3 0 0 3 ∷ []
a_join_withdraws_what_stood_for_both = refl

-- SELECT COUNT(*) HAVING SUM(n) < 5
having_false_withdraws_too :
    written (record base { mode = mode.Retracting; early = 1; row = λ key ds. if int_lt (total ds) (pos 5) then Some (count ds ∷ []) else None }) (a 1 2 ∷ a 2 3 ∷ w 60 ∷ [])
    ≡ pane Early 0 0 60 (1 ∷ []) ∷ retract 0 0 60 (1 ∷ []) ∷ End 3 2 0 0 3 ∷ []
having_false_withdraws_too = refl

a_pane_is_withdrawn_as_it_is_dropped :
    written (record base { mode = mode.Retracting }) (a 5 1 ∷ w 60 ∷ a 55 2 ∷ w 70 ∷ w 80 ∷ [])
    ≡ pane OnTime 0 0 60 (1 ∷ 1 ∷ []) ∷ retract 0 0 60 (1 ∷ 1 ∷ []) ∷ pane Final 0 0 60 (2 ∷ 3 ∷ []) ∷ End 5 2 0 0 2 ∷ []
a_pane_is_withdrawn_as_it_is_dropped = refl

what_stood_for_one_part_stands :
    written (with_lateness 100 (record counting { shape = Session (pos 30); mode = mode.Retracting })) (a 0 1 ∷ w 30 ∷ a 40 1 ∷ a 20 1 ∷ w 70 ∷ [])
    ≡ pane OnTime 0 0 30 (1 ∷ []) ∷ retract 0 0 30 (1 ∷ []) ∷ pane OnTime 0 0 70 (3 ∷ []) ∷ End 5 3 0 0 2 ∷ []
what_stood_for_one_part_stands = refl

a_joined_session_fires_at_once :
    written (with_lateness 100 (record counting { shape = Session (pos 30); mode = mode.Retracting; late = 1 })) (a 0 1 ∷ a 40 1 ∷ w 70 ∷ a 20 1 ∷ [])
    ≡ pane OnTime 0 0 30 (1 ∷ []) ∷ pane OnTime 0 40 70 (1 ∷ []) ∷ retract 0 0 30 (1 ∷ []) ∷ retract 0 40 70 (1 ∷ []) ∷ pane Late 0 0 70 (3 ∷ []) ∷ End 4 3 0 0 3 ∷ []
a_joined_session_fires_at_once = refl

windows_far_apart :
    written base (a 5 1 ∷ w 80 ∷ a 180 2 ∷ w 250 ∷ []) ≡ pane OnTime 0 0 60 (1 ∷ 1 ∷ []) ∷ pane OnTime 0 180 240 (1 ∷ 2 ∷ []) ∷ End 4 2 0 0 2 ∷ []
windows_far_apart = refl

-- ---- lateness from a window's end

-- LATENESS l FROM WINDOW
abbrev pub from_window : ℕ → Query → Query
from_window l q = record q { clock = record q.clock { lateness = pos l; from_window = true } }

a_record_is_late_once_its_window_is_dropped :
    written (from_window 10 base) (w 65 ∷ a 5 4 ∷ w 70 ∷ a 6 1 ∷ []) ≡ pane Final 0 0 60 (1 ∷ 4 ∷ []) ∷ End 4 1 1 0 1 ∷ []
a_record_is_late_once_its_window_is_dropped = refl

a_record_enters_its_live_windows_alone :
    written (from_window 10 (record base { shape = Sliding (pos 60) (pos 25) })) (w 45 ∷ a 5 1 ∷ w 70 ∷ []) ≡ pane OnTime 0 0 60 (1 ∷ 1 ∷ []) ∷ End 3 1 0 0 1 ∷ []
a_record_enters_its_live_windows_alone = refl

-- ---- two sources

-- SOURCES x, y
abbrev pub two_sources : Query → Query
two_sources q = record q { declared = record q.declared { sources = codes "x" ∷ codes "y" ∷ [] } }

the_least_watermark_holds :
    written (two_sources base) (a 5 7 ∷ w_of 0 90 ∷ a 50 3 ∷ w_of 1 60 ∷ Ok (Watermark None (pos 70)) ∷ w_of 1 60 ∷ w_of 1 80 ∷ [])
    ≡ pane OnTime 0 0 60 (2 ∷ 10 ∷ []) ∷ Refused 5 refusal.UnknownSource ∷ Refused 6 refusal.NotRising ∷ End 7 2 0 2 1 ∷ []
the_least_watermark_holds = refl

-- the rows of a stream have the new mark, which isn't that of the row
streams_write_where_the_watermark_rises :
    written (with_lateness 0 (two_sources (record counting { form = form.Istream }))) (a 1 1 ∷ w_of 1 60 ∷ b 2 1 ∷ w_of 0 70 ∷ w_of 0 80 ∷ w_of 1 75 ∷ [])
    ≡ Out (Istream (pos 60) (ints (1 ∷ []))) ∷ Out (Istream (pos 60) (ints (1 ∷ []))) ∷ End 6 2 0 0 2 ∷ []
streams_write_where_the_watermark_rises = refl

-- ---- retracting panes, with lateness from a window's end and with two sources

-- a record is too late for one of its windows, and what stood for another is withdrawn
a_record_withdraws_in_its_live_windows_alone :
    written (from_window 10 (record base { shape = Sliding (pos 60) (pos 25); mode = mode.Retracting })) (w 45 ∷ a 5 1 ∷ w 60 ∷ a 30 2 ∷ w 70 ∷ [])
    ≡ pane OnTime 0 0 60 (1 ∷ 1 ∷ []) ∷ retract 0 0 60 (1 ∷ 1 ∷ []) ∷ pane Final 0 0 60 (2 ∷ 3 ∷ []) ∷ End 5 2 0 0 2 ∷ []
a_record_withdraws_in_its_live_windows_alone = refl

-- a watermark that the other source holds back withdraws nothing
panes_are_withdrawn_where_the_watermark_rises :
    written (two_sources (record base { mode = mode.Retracting })) (a 5 7 ∷ w_of 0 90 ∷ w_of 1 60 ∷ a 55 1 ∷ w_of 0 95 ∷ w_of 1 75 ∷ [])
    ≡ pane OnTime 0 0 60 (1 ∷ 7 ∷ []) ∷ retract 0 0 60 (1 ∷ 7 ∷ []) ∷ pane Final 0 0 60 (2 ∷ 8 ∷ []) ∷ End 6 2 0 0 2 ∷ []
panes_are_withdrawn_where_the_watermark_rises = refl
