-- Worked rows of the law from a watermark on, and what its bounds are for. Histories are written oldest row first.
use Rattle.std.specs.Prelude.{◌≡◌, refl, ℕ, true, false, List, [], ◌∷◌, ◌++◌, filter, reverse, pos, Some}
use Rattle.wsm_record.specs.declared.event.Value.TheVariants.{Int}
use Rattle.wsm_record.specs.declared.words.Mode.TheVariants as mode
use Rattle.wsm_record.specs.Event.{Event, Record, Watermark}
use Rattle.wsm_windows.specs.declared.window.PaneKind.TheVariants.{OnTime, Final}
use Rattle.wsm_windows.specs.declared.window.Shape.TheVariants.{Fixed, Session}
use Rattle.wsm_windows.specs.Windows.{window}
use Rattle.wsm_semantics.specs.declared.out_row.OutRow.TheVariants.{Pane, Retract}
use Rattle.wsm_semantics.specs.Query.{Query}
use Rattle.wsm_semantics.specs.Relation.{turn_rows}
use Rattle.wsm_semantics.specs.Lines.{Row, events}
use Rattle.wsm_semantics.specs.Rows.{base, a, w, ints}
use Rattle.wsm_semantics.specs.FromWatermark.{Step, Stays, Goes, rest, turn_in, begun_at, is_after, is_row_at, is_beside, settled_at, dropped_times}

abbrev past_of : List Row → List Event
past_of rows = events (reverse rows)

abbrev watermark : ℕ → Event
watermark time = Watermark (Some 0) (pos time)

-- SKEW 20, windows of 10
abbrev q : Query
q = record base { clock = record base.clock { skew = pos 20 }; shape = Fixed (pos 10) }

-- behind the watermark 30 no record may be later than 50
abbrev before : List Row
before = a 10 1 ∷ w 30 ∷ a 50 2 ∷ []

abbrev after : List Row
after = w 40 ∷ a 51 3 ∷ a 60 4 ∷ []

abbrev anew : Query
anew = begun_at (pos 30) (pos 1000) q

-- ---- the bound: past 30 and SKEW

-- the window that begins with 60 has the same row in both
the_whole_writes : filter (is_row_at (is_after q (λ key. pos 50))) (turn_rows q (past_of (before ++ after)) (watermark 70)) ≡ Pane OnTime 0 (window (pos 60) (pos 70)) (ints (1 ∷ 4 ∷ [])) ∷ []
the_whole_writes = refl

the_second_writes_it : filter (is_row_at (is_after q (λ key. pos 50))) (turn_rows anew (past_of after) (watermark 70)) ≡ Pane OnTime 0 (window (pos 60) (pos 70)) (ints (1 ∷ 4 ∷ [])) ∷ []
the_second_writes_it = refl

-- that which begins with 50 hasn't
one_that_begins_at_the_bound : turn_rows q (past_of (before ++ after)) (watermark 60) ≡ Pane OnTime 0 (window (pos 50) (pos 60)) (ints (2 ∷ 5 ∷ [])) ∷ []
one_that_begins_at_the_bound = refl

lacks_a_record : turn_rows anew (past_of after) (watermark 60) ≡ Pane OnTime 0 (window (pos 50) (pos 60)) (ints (1 ∷ 3 ∷ [])) ∷ []
lacks_a_record = refl

-- where windows are settled: none that begins by 50 is live at 70
settled_with : settled_at q (pos 50) ≡ pos 70
settled_with = refl

-- one less isn't enough: a record that comes late then is shown at 70 with those of its window
still_whole : turn_rows q (past_of (before ++ after ++ w 69 ∷ a 59 5 ∷ [])) (watermark 70) ≡ Pane Final 0 (window (pos 50) (pos 60)) (ints (3 ∷ 10 ∷ [])) ∷ Pane OnTime 0 (window (pos 60) (pos 70)) (ints (1 ∷ 4 ∷ [])) ∷ []
still_whole = refl

still_lacks_it : turn_rows anew (past_of (after ++ w 69 ∷ a 59 5 ∷ [])) (watermark 70) ≡ Pane Final 0 (window (pos 50) (pos 60)) (ints (2 ∷ 8 ∷ [])) ∷ Pane OnTime 0 (window (pos 60) (pos 70)) (ints (1 ∷ 4 ∷ [])) ∷ []
still_lacks_it = refl

-- ---- records that are left out

abbrev steps : List Step
steps = Stays (watermark 45) ∷ Goes (Record (Some 0) (pos 40) (Int (pos 7) ∷ [])) ∷ Stays (Record (Some 0) (pos 51) (Int (pos 3) ∷ [])) ∷ []

it_lacks_one : rest steps [] ≡ past_of (a 51 3 ∷ w 45 ∷ [])
it_lacks_one = refl

-- which had its turn
the_next_is_later : turn_in steps [] 3 2 ≡ 6
the_next_is_later = refl

-- ---- sessions: a gap later

abbrev in_sessions : Query
in_sessions = record q { shape = Session (pos 10) }

-- 59 is linked to 50, which came before
one_session : turn_rows in_sessions (past_of (a 10 1 ∷ w 30 ∷ a 50 2 ∷ w 40 ∷ a 59 3 ∷ [])) (watermark 70) ≡ Pane OnTime 0 (window (pos 50) (pos 69)) (ints (2 ∷ 5 ∷ [])) ∷ []
one_session = refl

begins_later_without_it : turn_rows (begun_at (pos 30) (pos 1000) in_sessions) (past_of (w 40 ∷ a 59 3 ∷ [])) (watermark 70) ≡ Pane OnTime 0 (window (pos 59) (pos 69)) (ints (1 ∷ 3 ∷ [])) ∷ []
begins_later_without_it = refl

-- its time parts it, and none before does: at the watermark 70 records up to 49 go
parted : is_beside (pos 10) (pos 50) (window (pos 50) (pos 69)) ≡ false × is_beside (pos 10) (pos 49) (window (pos 50) (pos 69)) ≡ true
parted = (refl, refl)

its_time_is_before_it : dropped_times in_sessions (past_of (a 10 1 ∷ w 30 ∷ a 50 2 ∷ w 40 ∷ a 59 3 ∷ w 70 ∷ [])) 0 ≡ pos 49
its_time_is_before_it = refl

-- ---- sessions that retract: a row of a session that begins late enough is withdrawn where that is joined with one that
-- fired, and so at another time where that one hasn't

-- SESSION 5 RETRACTING EARLY EVERY 2, SKEW 6
abbrev retracting : Query
retracting = record base { clock = record base.clock { skew = pos 6 }; shape = Session (pos 5); mode = mode.Retracting; early = 2 }

abbrev joining : Event
joining = Record (Some 0) (pos 10) (Int (pos 1) ∷ [])

withdrawn_as_it_is_joined : turn_rows retracting (past_of (a 6 1 ∷ a 5 1 ∷ w 9 ∷ a 14 1 ∷ a 15 1 ∷ [])) joining
    ≡ Retract 0 (window (pos 5) (pos 11)) (ints (2 ∷ 2 ∷ [])) ∷ Retract 0 (window (pos 14) (pos 20)) (ints (2 ∷ 2 ∷ [])) ∷ []
withdrawn_as_it_is_joined = refl

not_yet_withdrawn : turn_rows retracting (past_of (w 9 ∷ a 14 1 ∷ a 15 1 ∷ [])) joining ≡ []
not_yet_withdrawn = refl

but_as_it_fires : turn_rows retracting (past_of (w 9 ∷ a 14 1 ∷ a 15 1 ∷ a 10 1 ∷ [])) (watermark 30)
    ≡ Retract 0 (window (pos 14) (pos 20)) (ints (2 ∷ 2 ∷ [])) ∷ Pane OnTime 0 (window (pos 10) (pos 20)) (ints (3 ∷ 3 ∷ [])) ∷ []
but_as_it_fires = refl
