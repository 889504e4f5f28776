-- Worked rows of what panes come to that retract or accumulate. Rows are written oldest first.
use Rattle.std.specs.Prelude.{◌≡◌, refl, List, [], ◌∷◌, ◌++◌, reverse, pos, int_lt, Some, None, if◌then◌else◌}
use Rattle.wsm_record.specs.declared.words.Mode.TheVariants as mode
use Rattle.wsm_record.specs.declared.cell.Cell.TheVariants as cells
use Rattle.wsm_record.specs.Event.{Event}
use Rattle.wsm_windows.specs.declared.window.Shape.TheVariants.{Session}
use Rattle.wsm_windows.specs.Windows.{window}
use Rattle.wsm_windows.specs.Places.{at}
use Rattle.wsm_semantics.specs.Query.{Query}
use Rattle.wsm_semantics.specs.Lines.{Row, events}
use Rattle.wsm_semantics.specs.Rows.{base, a, b, w, ints, total, count, first_value}
use Rattle.wsm_semantics.specs.Amounts.{Amount, amount_written, amount_owed, begins_in}
use Rattle.wsm_amounts.specs.Retracted.{amount_shown, amount_withdrawn}
use Rattle.wsm_amounts.specs.LastRows.{last_written}

abbrev past_of : List Row → List Event
past_of rows = events (reverse rows)

-- SELECT COUNT(*), SUM(n) WINDOW FIXED 60 RETRACTING EARLY EVERY 2 LATE EVERY 1, with SKEW 100 and LATENESS 10
abbrev bill : Query
bill = record base { mode = mode.Retracting; early = 2; late = 1 }

abbrev sums : Amount
sums key values = first_value values

-- two in time, one of another key, one in the next window, and two late
abbrev rows : List Row
rows = a 5 7 ∷ a 59 3 ∷ b 6 9 ∷ a 61 5 ∷ w 60 ∷ a 58 2 ∷ w 65 ∷ a 57 1 ∷ []

-- ---- a window that fires early, on time and twice late, and is dropped

-- 10 early, 10 on time, 12 and 13 late
what_is_shown : amount_shown bill (past_of (rows ++ w 70 ∷ [])) 1 (begins_in 0 (pos 0) (pos 60)) ≡ pos 45
what_is_shown = refl

-- each but the last
what_is_withdrawn : amount_withdrawn bill (past_of (rows ++ w 70 ∷ [])) 1 (begins_in 0 (pos 0) (pos 60)) ≡ pos 32
what_is_withdrawn = refl

what_is_written : amount_written bill (past_of (rows ++ w 70 ∷ [])) 1 (begins_in 0 (pos 0) (pos 60)) ≡ pos 13
what_is_written = refl

what_is_owed : amount_owed bill (past_of (rows ++ w 70 ∷ [])) sums 0 (pos 0) (pos 60) ≡ pos 13
what_is_owed = refl

-- and their number
how_many_are_written : amount_written bill (past_of (rows ++ w 70 ∷ [])) 0 (begins_in 0 (pos 0) (pos 60)) ≡ pos 4
how_many_are_written = refl

-- both windows, once both are dropped
both_windows : amount_written bill (past_of (rows ++ w 130 ∷ [])) 1 (begins_in 0 (pos 0) (pos 120)) ≡ pos 18
both_windows = refl

-- one unit before it is dropped a record may be unshown
not_yet_written : amount_written (record bill { late = 0 }) (past_of (a 61 5 ∷ w 120 ∷ a 119 4 ∷ w 129 ∷ [])) 1 (begins_in 0 (pos 60) (pos 120)) ≡ pos 5
not_yet_written = refl

but_written_at_its_drop : amount_written (record bill { late = 0 }) (past_of (a 61 5 ∷ w 120 ∷ a 119 4 ∷ w 129 ∷ w 130 ∷ [])) 1 (begins_in 0 (pos 60) (pos 120)) ≡ pos 9
but_written_at_its_drop = refl

-- HAVING SUM(n) < 12: what is too great is withdrawn, and not told
having_loses_rows : amount_written (record bill { row = λ key ds. if int_lt (total ds) (pos 12) then Some (count ds ∷ cells.Int (total ds) ∷ []) else None }) (past_of (rows ++ w 70 ∷ [])) 1 (begins_in 0 (pos 0) (pos 60)) ≡ pos 0
having_loses_rows = refl

-- ---- two sessions that fired and are joined: both are withdrawn

abbrev in_sessions : Query
in_sessions = record bill { shape = Session (pos 30); early = 1 }

abbrev joined : List Event
joined = past_of (a 5 7 ∷ a 50 4 ∷ a 28 1 ∷ w 90 ∷ [])

-- 7, 4 and 12 early, and 12 on time
both_are_shown : amount_shown in_sessions joined 1 (begins_in 0 (pos 0) (pos 60)) ≡ pos 35
both_are_shown = refl

both_are_withdrawn : amount_withdrawn in_sessions joined 1 (begins_in 0 (pos 0) (pos 60)) ≡ pos 23
both_are_withdrawn = refl

the_sum_is_owed : amount_owed in_sessions joined sums 0 (pos 0) (pos 60) ≡ pos 12
the_sum_is_owed = refl

-- ---- the last row of an accumulating window

abbrev accumulating : Query
accumulating = record bill { mode = mode.Accumulating }

the_last_row : last_written accumulating (past_of (rows ++ w 70 ∷ [])) (at 0 (window (pos 0) (pos 60))) ≡ Some (ints (4 ∷ 13 ∷ []))
the_last_row = refl

-- before the window is dropped it may lack records
not_the_last_yet : last_written (record accumulating { late = 0 }) (past_of (a 61 5 ∷ w 120 ∷ a 119 4 ∷ w 129 ∷ [])) (at 0 (window (pos 60) (pos 120))) ≡ Some (ints (1 ∷ 5 ∷ []))
not_the_last_yet = refl

-- with HAVING SUM(n) < 12 it is a row that isn't true any more
having_leaves_a_row :
    last_written (record accumulating { row = λ key ds. if int_lt (total ds) (pos 12) then Some (count ds ∷ cells.Int (total ds) ∷ []) else None }) (past_of (rows ++ w 70 ∷ [])) (at 0 (window (pos 0) (pos 60)))
    ≡ Some (ints (2 ∷ 10 ∷ []))
having_leaves_a_row = refl

-- rows of sessions that were joined are told again, and none is withdrawn
joined_rows_stay : amount_written (record in_sessions { mode = mode.Accumulating }) joined 1 (begins_in 0 (pos 0) (pos 60)) ≡ pos 35
joined_rows_stay = refl
