-- Worked rows of amounts, of deliveries and of the invoice. Rows are written oldest first.
use Rattle.std.specs.Prelude.{◌≡◌, refl, ℕ, List, [], ◌∷◌, ◌++◌, reverse, pos, negsuc, int_lt, Some, None, if◌then◌else◌}
use Rattle.std.specs.Ordering.{eq_by_cmp}
use Rattle.wsm_record.specs.declared.event.Value.TheVariants.{Int}
use Rattle.wsm_record.specs.declared.cell.Cell.TheVariants as cells
use Rattle.wsm_record.specs.declared.words.Mode.TheVariants as mode
use Rattle.wsm_record.specs.Event.{Event}
use Rattle.wsm_windows.specs.declared.window.Shape.TheVariants.{Sliding, Session}
use Rattle.wsm_windows.specs.Windows.{window}
use Rattle.wsm_windows.specs.Places.{place_cmp, at}
use Rattle.wsm_semantics.specs.Query.{Query}
use Rattle.wsm_semantics.specs.Lines.{Row, events}
use Rattle.wsm_semantics.specs.Rows.{base, a, b, w, total, count, first_value, from_window}
use Rattle.wsm_semantics.specs.Amounts.{Amount, amount_written, amount_owed, begins_in}
use Rattle.wsm_semantics.specs.Deliveries.{Sent, Delivery, Comes, Told, once_all, once_live, passing}
use Rattle.wsm_semantics.specs.Invoice.{amount_billed}

abbrev past_of : List Row → List Event
past_of rows = events (reverse rows)

-- SELECT COUNT(*), SUM(n) WINDOW FIXED 60 DISCARDING EARLY EVERY 2 LATE EVERY 1, with SKEW 100 and LATENESS 10
abbrev bill : Query
bill = record base { mode = mode.Discarding; early = 2; late = 1 }

-- what SUM(n) adds up, and COUNT(*)
abbrev sums : Amount
sums key values = first_value values

abbrev counts : Amount
counts key values = pos 1

-- two in time, one of another key, one late and one in the next window
abbrev rows : List Row
rows = a 5 7 ∷ a 59 3 ∷ b 6 9 ∷ a 61 5 ∷ w 60 ∷ a 58 2 ∷ w 65 ∷ a 57 1 ∷ []

-- ---- amounts

-- both windows, once both are dropped
what_is_written : amount_written bill (past_of (rows ++ w 130 ∷ [])) 1 (begins_in 0 (pos 0) (pos 120)) ≡ pos 18
what_is_written = refl

what_is_owed : amount_owed bill (past_of (rows ++ w 130 ∷ [])) sums 0 (pos 0) (pos 120) ≡ pos 18
what_is_owed = refl

-- and their number
how_many_are_written : amount_written bill (past_of (rows ++ w 130 ∷ [])) 0 (begins_in 0 (pos 0) (pos 120)) ≡ pos 5
how_many_are_written = refl

how_many_are_owed : amount_owed bill (past_of (rows ++ w 130 ∷ [])) counts 0 (pos 0) (pos 120) ≡ pos 5
how_many_are_owed = refl

-- with other triggers it is the same
without_triggers : amount_written (record bill { early = 0; late = 0 }) (past_of (rows ++ w 130 ∷ [])) 1 (begins_in 0 (pos 0) (pos 120)) ≡ pos 18
without_triggers = refl

-- one unit before the last window is dropped a record may be unshown
not_yet_written : amount_written (record bill { late = 0 }) (past_of (a 61 5 ∷ w 120 ∷ a 119 4 ∷ w 129 ∷ [])) 1 (begins_in 0 (pos 60) (pos 120)) ≡ pos 5
not_yet_written = refl

though_it_is_owed : amount_owed (record bill { late = 0 }) (past_of (a 61 5 ∷ w 120 ∷ a 119 4 ∷ w 129 ∷ [])) sums 0 (pos 60) (pos 120) ≡ pos 9
though_it_is_owed = refl

but_written_at_its_drop : amount_written (record bill { late = 0 }) (past_of (a 61 5 ∷ w 120 ∷ a 119 4 ∷ w 129 ∷ w 130 ∷ [])) 1 (begins_in 0 (pos 60) (pos 120)) ≡ pos 9
but_written_at_its_drop = refl

-- panes that accumulate tell a record again
accumulating_counts_again : amount_written (record bill { mode = mode.Accumulating }) (past_of (rows ++ w 130 ∷ [])) 1 (begins_in 0 (pos 0) (pos 120)) ≡ pos 50
accumulating_counts_again = refl

-- but those that retract withdraw what they told
retracting_counts_once : amount_written (record bill { mode = mode.Retracting }) (past_of (rows ++ w 130 ∷ [])) 1 (begins_in 0 (pos 0) (pos 120)) ≡ pos 18
retracting_counts_once = refl

-- HAVING SUM(n) > 4: a small row is never told
having_loses_rows : amount_written (record bill { row = λ key ds. if int_lt (pos 4) (total ds) then Some (count ds ∷ cells.Int (total ds) ∷ []) else None }) (past_of (rows ++ w 130 ∷ [])) 1 (begins_in 0 (pos 0) (pos 120)) ≡ pos 15
having_loses_rows = refl

-- a span that isn't of whole windows
half_a_window_is_written : amount_written bill (past_of (rows ++ w 130 ∷ [])) 1 (begins_in 0 (pos 30) (pos 120)) ≡ pos 5
half_a_window_is_written = refl

more_is_owed : amount_owed bill (past_of (rows ++ w 130 ∷ [])) sums 0 (pos 30) (pos 120) ≡ pos 11
more_is_owed = refl

-- a sliding window, whose records stand in another too
of_a_sliding_window : amount_written (record bill { shape = Sliding (pos 60) (pos 30) }) (past_of (rows ++ w 130 ∷ [])) 1 (eq_by_cmp place_cmp (at 0 (window (pos 30) (pos 90)))) ≡ pos 11
of_a_sliding_window = refl

-- over a span each record counts as often as it stands in windows that begin there
each_counts_twice : amount_written (record bill { shape = Sliding (pos 60) (pos 30) }) (past_of (rows ++ w 130 ∷ [])) 1 (begins_in 0 (negsuc 29) (pos 61)) ≡ pos 36
each_counts_twice = refl

-- sessions with a gap of 30: one from 5 to 50, one from 100 to 130
abbrev in_sessions : Query
in_sessions = record bill { shape = Session (pos 30) }

abbrev two_sessions : List Event
two_sessions = past_of (a 5 7 ∷ a 20 3 ∷ w 51 ∷ a 100 4 ∷ w 140 ∷ [])

of_the_first : amount_written in_sessions two_sessions 1 (begins_in 0 (pos 0) (pos 60)) ≡ pos 10
of_the_first = refl

is_owed : amount_owed in_sessions two_sessions sums 0 (pos 0) (pos 60) ≡ pos 10
is_owed = refl

-- a span that cuts a session, by one unit
cut_at_its_last_record : amount_written in_sessions two_sessions 1 (begins_in 0 (pos 0) (pos 20)) ≡ pos 10
cut_at_its_last_record = refl

less_is_owed : amount_owed in_sessions two_sessions sums 0 (pos 0) (pos 20) ≡ pos 7
less_is_owed = refl

-- ---- deliveries

abbrev comes : ℕ → ℕ → ℕ → Delivery
comes i time n = Comes (record { identifier = i; key = Some 0; time = pos time; values = Int (pos n) ∷ [] })

abbrev told : ℕ → Delivery
told time = Told (Some 0) (pos time)

abbrev deliveries : List Delivery → List Delivery
deliveries ds = reverse ds

-- at 15 the record of 5 may still count, so its identifier is remembered
it_is_remembered : (passing bill (deliveries (comes 1 5 7 ∷ told 15 ∷ []))).memory ≡ (1, pos 5) ∷ []
it_is_remembered = refl

and_left_out : once_live bill (deliveries (comes 1 5 7 ∷ told 15 ∷ comes 1 5 7 ∷ [])) ≡ past_of (a 5 7 ∷ w 15 ∷ [])
and_left_out = refl

-- at 16 it is forgotten, and passes
then_it_is_forgotten : (passing bill (deliveries (comes 1 5 7 ∷ told 16 ∷ []))).memory ≡ []
then_it_is_forgotten = refl

and_passes : once_live bill (deliveries (comes 1 5 7 ∷ told 16 ∷ comes 1 5 7 ∷ [])) ≡ past_of (a 5 7 ∷ w 16 ∷ a 5 7 ∷ [])
and_passes = refl

-- as it is late it counts no more
and_counts_no_more : amount_written bill (once_live bill (deliveries (comes 1 5 7 ∷ told 16 ∷ comes 1 5 7 ∷ told 70 ∷ []))) 1 (begins_in 0 (pos 0) (pos 60)) ≡ pos 7
and_counts_no_more = refl

-- forgotten at 15 it would count again
counts_twice : amount_written bill (past_of (a 5 7 ∷ w 15 ∷ a 5 7 ∷ w 70 ∷ [])) 1 (begins_in 0 (pos 0) (pos 60)) ≡ pos 14
counts_twice = refl

-- and so it would where lateness is counted from the window, in which it stands for longer
from_its_window : once_live (from_window 10 bill) (deliveries (comes 1 5 7 ∷ told 69 ∷ comes 1 5 7 ∷ told 70 ∷ comes 1 5 7 ∷ [])) ≡ past_of (a 5 7 ∷ w 69 ∷ w 70 ∷ a 5 7 ∷ [])
from_its_window = refl

-- a double with a later time isn't late when the first is forgotten
another_time : amount_written bill (once_live bill (deliveries (comes 1 5 7 ∷ told 16 ∷ comes 1 50 7 ∷ told 70 ∷ []))) 1 (begins_in 0 (pos 0) (pos 60)) ≡ pos 14
another_time = refl

but_one_is_due : amount_written bill (once_all (deliveries (comes 1 5 7 ∷ told 16 ∷ comes 1 50 7 ∷ told 70 ∷ []))) 1 (begins_in 0 (pos 0) (pos 60)) ≡ pos 7
but_one_is_due = refl

-- one with an earlier time is late where the first is
an_earlier_time : amount_written bill (once_live bill (deliveries (comes 1 50 7 ∷ told 61 ∷ comes 1 5 7 ∷ told 70 ∷ []))) 1 (begins_in 0 (pos 0) (pos 60)) ≡ pos 7
an_earlier_time = refl

-- a first delivery that was too far ahead is lost, though it comes again in time
too_far_ahead_at_first : amount_written bill (once_all (deliveries (comes 1 101 7 ∷ told 50 ∷ comes 1 101 7 ∷ told 200 ∷ []))) 1 (begins_in 0 (pos 60) (pos 120)) ≡ pos 0
too_far_ahead_at_first = refl

-- ---- the invoice

-- three records, of which two are delivered again, one of them late
abbrev records : List Sent
records =
    record { identifier = 1; key = Some 0; time = pos 5; values = Int (pos 7) ∷ [] }
    ∷ record { identifier = 2; key = Some 0; time = pos 59; values = Int (pos 3) ∷ [] }
    ∷ record { identifier = 3; key = Some 0; time = pos 61; values = Int (pos 5) ∷ [] }
    ∷ []

abbrev delivered : List Delivery
delivered = deliveries (comes 2 59 3 ∷ comes 1 5 7 ∷ comes 2 59 3 ∷ told 30 ∷ comes 1 5 7 ∷ comes 3 61 5 ∷ comes 2 59 3 ∷ told 130 ∷ comes 3 61 5 ∷ [])

what_the_invoice_says : amount_written bill (once_live bill delivered) 1 (begins_in 0 (pos 0) (pos 120)) ≡ pos 15
what_the_invoice_says = refl

what_is_billed : amount_billed bill sums 0 (pos 0) (pos 120) records ≡ pos 15
what_is_billed = refl
