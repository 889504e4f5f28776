-- Worked rows on the needed events of histories, and what each part of them is for. Histories are written oldest row first.
use Rattle.std.specs.Prelude.{◌≡◌, refl, ℕ, false, List, [], ◌∷◌, reverse, pos, Some, None}
use Rattle.wsm_record.specs.declared.event.Value.TheVariants.{Int}
use Rattle.wsm_record.specs.declared.words.Form.TheVariants as form
use Rattle.wsm_record.specs.Event.{Event, Record, Watermark}
use Rattle.wsm_windows.specs.declared.window.PaneKind.TheVariants.{OnTime, Final}
use Rattle.wsm_windows.specs.declared.window.Shape.TheVariants.{Fixed, Sliding, Session}
use Rattle.wsm_windows.specs.Windows.{window}
use Rattle.wsm_admission.specs.declared.verdict.Refusal.TheVariants as refusal
use Rattle.wsm_semantics.specs.declared.out_row.OutRow.{OutRow}
use Rattle.wsm_semantics.specs.declared.out_row.OutRow.TheVariants.{Pane, Istream}
use Rattle.wsm_semantics.specs.Query.{Query, verdict_on}
use Rattle.wsm_semantics.specs.Relation.{turn_rows}
use Rattle.wsm_semantics.specs.Lines.{Row, events}
use Rattle.wsm_semantics.specs.Rows.{base, a, w, w_of, ints, two_sources, with_lateness}
use Rattle.wsm_semantics.specs.FromWatermark.{dropped_times}
use Rattle.wsm_semantics.specs.Needed.{needed}

abbrev past_of : List Row → List Event
past_of rows = events (reverse rows)

-- the rows that a watermark writes behind others
abbrev writes : Query → List Row → ℕ → List OutRow
writes q rows time = turn_rows q (past_of rows) (Watermark (Some 0) (pos time))

abbrev record_at : ℕ → Event
record_at time = Record (Some 0) (pos time) (Int (pos 1) ∷ [])

-- ---- windows of 10, LATENESS 10

abbrev q : Query
q = record base { shape = Fixed (pos 10) }

abbrev rows : List Row
rows = a 5 1 ∷ w 18 ∷ w 20 ∷ a 15 2 ∷ a 20 3 ∷ w 30 ∷ a 28 4 ∷ w 32 ∷ []

-- at the watermark 32 the window that begins with 20 is the first that is live
dropped_up_to : dropped_times q (past_of rows) 0 ≡ pos 19
dropped_up_to = refl

-- its records, and the last watermark before each
needed_rows : needed q (past_of rows) ≡ past_of (w 20 ∷ a 20 3 ∷ w 30 ∷ a 28 4 ∷ w 32 ∷ [])
needed_rows = refl

the_whole_writes : writes q rows 40 ≡ Pane Final 0 (window (pos 20) (pos 30)) (ints (2 ∷ 7 ∷ [])) ∷ []
the_whole_writes = refl

so_do_they : writes q (w 20 ∷ a 20 3 ∷ w 30 ∷ a 28 4 ∷ w 32 ∷ []) 40 ≡ Pane Final 0 (window (pos 20) (pos 30)) (ints (2 ∷ 7 ∷ [])) ∷ []
so_do_they = refl

-- not with a record of a window that was dropped in the place of one of a live window
with_an_earlier_record : writes q (w 20 ∷ a 15 2 ∷ w 30 ∷ a 28 4 ∷ w 32 ∷ []) 40 ≡ Pane Final 0 (window (pos 20) (pos 30)) (ints (1 ∷ 4 ∷ [])) ∷ []
with_an_earlier_record = refl

-- nor without the watermark before a record, by which it came late
without_its_watermark : writes q (w 20 ∷ a 20 3 ∷ a 28 4 ∷ w 32 ∷ []) 40 ≡ []
without_its_watermark = refl

-- nor without that at the end, by which a record that comes next is late
late_by_the_last : verdict_on q (past_of (w 20 ∷ a 20 3 ∷ w 30 ∷ a 28 4 ∷ w 32 ∷ [])) (record_at 21) ≡ Some refusal.Late × verdict_on q (past_of (w 20 ∷ a 20 3 ∷ w 30 ∷ a 28 4 ∷ [])) (record_at 21) ≡ None
late_by_the_last = (refl, refl)

-- the window of 19 is dropped by 30, and at 29 it needs it still
until_it_is_dropped : needed q (past_of (a 19 1 ∷ a 20 2 ∷ w 30 ∷ [])) ≡ past_of (a 20 2 ∷ w 30 ∷ []) × needed q (past_of (a 19 1 ∷ a 20 2 ∷ w 29 ∷ [])) ≡ past_of (a 19 1 ∷ a 20 2 ∷ w 29 ∷ [])
until_it_is_dropped = (refl, refl)

at_its_drop : writes q (a 19 1 ∷ w 29 ∷ a 19 5 ∷ []) 30 ≡ Pane Final 0 (window (pos 10) (pos 20)) (ints (2 ∷ 6 ∷ [])) ∷ [] × writes q (w 29 ∷ a 19 5 ∷ []) 30 ≡ Pane Final 0 (window (pos 10) (pos 20)) (ints (1 ∷ 5 ∷ [])) ∷ []
at_its_drop = (refl, refl)

-- what was refused, came late or isn't selected isn't needed, nor a watermark that doesn't raise the mark of its source
none_of_these : needed (record q { selects = λ key values. false }) (past_of rows) ≡ past_of (w 32 ∷ []) × needed q (past_of (w 30 ∷ a 19 1 ∷ w 25 ∷ a 200 1 ∷ [])) ≡ past_of (w 30 ∷ [])
none_of_these = (refl, refl)

-- ---- sessions: all records of a session that is live

abbrev in_sessions : Query
in_sessions = record base { shape = Session (pos 10) }

-- 15 alone would be dropped by 35
all_of_a_session : needed in_sessions (past_of (a 1 1 ∷ a 15 2 ∷ a 24 3 ∷ a 33 4 ∷ w 35 ∷ [])) ≡ past_of (a 15 2 ∷ a 24 3 ∷ a 33 4 ∷ w 35 ∷ [])
all_of_a_session = refl

one_session : writes in_sessions (a 1 1 ∷ a 15 2 ∷ a 24 3 ∷ a 33 4 ∷ w 35 ∷ []) 43 ≡ Pane OnTime 0 (window (pos 15) (pos 43)) (ints (3 ∷ 9 ∷ [])) ∷ []
one_session = refl

without_its_first : writes in_sessions (a 24 3 ∷ a 33 4 ∷ w 35 ∷ []) 43 ≡ Pane OnTime 0 (window (pos 24) (pos 43)) (ints (2 ∷ 7 ∷ [])) ∷ []
without_its_first = refl

-- ---- two sources: the last watermark of each

of_each_source : needed (two_sources q) (past_of (w_of 0 10 ∷ w_of 1 4 ∷ w_of 0 20 ∷ w_of 1 12 ∷ a 15 1 ∷ w_of 1 16 ∷ w_of 1 18 ∷ []))
    ≡ past_of (w_of 0 20 ∷ w_of 1 12 ∷ a 15 1 ∷ w_of 1 18 ∷ [])
of_each_source = refl

-- ---- streams: what the last rise needs

-- SLIDING 20 EVERY 10, LATENESS 0
abbrev streaming : Query
streaming = with_lateness 0 (record base { shape = Sliding (pos 20) (pos 10); form = form.Istream })

abbrev streamed_rows : List Row
streamed_rows = a 15 1 ∷ w 20 ∷ w 25 ∷ []

-- the watermark 20 comes right before another
the_last_rise_but_one : needed streaming (past_of streamed_rows) ≡ past_of streamed_rows
the_last_rise_but_one = refl

not_for_panes : needed (record streaming { form = form.Panes }) (past_of streamed_rows) ≡ past_of (a 15 1 ∷ w 25 ∷ [])
not_for_panes = refl

-- the relation has lost at 25 what it gains at 30
with_it : writes streaming streamed_rows 30 ≡ Istream (pos 30) (ints (1 ∷ 1 ∷ [])) ∷ []
with_it = refl

without_it : writes streaming (a 15 1 ∷ w 25 ∷ []) 30 ≡ []
without_it = refl
