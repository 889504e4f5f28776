-- Worked rows on what is kept: after each event of some histories, a replay by what is kept alone
-- keeps, fires and writes what the definitions say. Inputs are written as they are read, the oldest
-- row first.
use Rattle.std.specs.Prelude.{◌≡◌, refl, ℕ, List, [], ◌∷◌, reverse, length, nat_eq, pos, int_lt, Some, None, if◌then◌else◌}
use Rattle.wsm_record.specs.declared.cell.Cell.TheVariants as cells
use Rattle.wsm_record.specs.declared.words.Form.TheVariants as form
use Rattle.wsm_record.specs.declared.words.Mode.TheVariants as mode
use Rattle.wsm_record.specs.Event.{Event, Watermark}
use Rattle.wsm_windows.specs.declared.window.Shape.TheVariants.{Sliding, Session}
use Rattle.wsm_semantics.specs.declared.out_row.OutRow.{OutRow}
use Rattle.wsm_semantics.specs.Query.{Query, effect_of}
use Rattle.wsm_semantics.specs.Firings.{Firing, firings}
use Rattle.wsm_semantics.specs.Relation.{turn_rows}
use Rattle.wsm_semantics.specs.Lines.{Row, events}
use Rattle.wsm_semantics.specs.Replay.{State, after, fired_by, turn_rows_by, state}
use Rattle.wsm_semantics.specs.Rows.{total, count, base, with_lateness, from_window, two_sources, a, b, w, w_of}

-- what is kept after an event, what it fired and the rows of its turn
abbrev Stage : Type 0
Stage = State × List Firing × List OutRow

abbrev latest : List Stage → State
latest [] = record { panes = []; relation = [] }
latest (s ∷ ss) = s.0

-- the stage of an event: by a replay, and by the definitions
abbrev replayed : Query → List Event → Event → State → Stage
replayed q past e s = (after q past e s, fired_by q (length past) (effect_of q past e) s.panes, turn_rows_by q past e s)

abbrev defined : Query → List Event → Event → Stage
defined q past e = (state q (e ∷ past), firings q past e, turn_rows q past e)

-- the stages of a history, the newest first
abbrev by_replay : Query → List Event → List Stage
by_replay q [] = []
by_replay q (e ∷ past) = let ss = by_replay q past in replayed q past e (latest ss) ∷ ss

abbrev by_definition : Query → List Event → List Stage
by_definition q [] = []
by_definition q (e ∷ past) = defined q past e ∷ by_definition q past

abbrev AgreeOn : Query → List Event → Type 0
AgreeOn q past = by_replay q past ≡ by_definition q past

abbrev Agree : Query → List Row → Type 0
Agree q rows = AgreeOn q (events (reverse rows))

-- they agree on one more event: a long history is computed in two parts
one_more : (q : Query) (past : List Event) (e : Event) → AgreeOn q past → replayed q past e (latest (by_replay q past)) ≡ defined q past e → AgreeOn q (e ∷ past)
one_more q past e before now i = now i ∷ before i

abbrev watermark : ℕ → Event
watermark time = Watermark (Some 0) (pos time)

-- ---- FIXED 60

panes_fire_once : Agree base (a 5 1 ∷ a 65 2 ∷ w 20 ∷ w 10 ∷ a 120 4 ∷ w 1000 ∷ [])
panes_fire_once = refl

early_and_late : Agree (record base { early = 2; late = 2 }) (a 50 1 ∷ a 55 2 ∷ a 56 3 ∷ w 60 ∷ a 57 4 ∷ a 58 5 ∷ a 59 6 ∷ w 70 ∷ [])
early_and_late = refl

early_and_late_discarding : Agree (record base { mode = mode.Discarding; early = 2; late = 2 }) (a 50 1 ∷ b 55 2 ∷ a 56 3 ∷ w 60 ∷ a 57 4 ∷ a 58 5 ∷ b 59 6 ∷ w 70 ∷ [])
early_and_late_discarding = refl

each_record_discarding : Agree (with_lateness 0 (record base { mode = mode.Discarding; early = 1 })) (a 50 1 ∷ b 55 2 ∷ w 60 ∷ a 57 4 ∷ a 61 5 ∷ w 130 ∷ [])
each_record_discarding = refl

-- WHERE the key is a
refused_and_unselected : Agree (record base { selects = λ key values. nat_eq key 0; early = 2 }) (a 50 1 ∷ b 51 2 ∷ a 101 3 ∷ w 65 ∷ a 54 4 ∷ b 60 5 ∷ a 55 6 ∷ w 65 ∷ a 56 7 ∷ w 70 ∷ [])
refused_and_unselected = refl

-- HAVING SUM(n) > 1, with EARLY EVERY 2 LATE EVERY 2
abbrev having : Query
having = with_lateness 100 (record base {
  early = 2;
  late = 2;
  row = λ key ds. if int_lt (pos 1) (total ds) then Some (count ds ∷ cells.Int (total ds) ∷ []) else None;
})

abbrev two_windows : List Row
two_windows = a 5 1 ∷ a 6 2 ∷ w 60 ∷ a 7 3 ∷ b 8 1 ∷ a 61 1 ∷ w 61 ∷ a 59 4 ∷ w 160 ∷ []

gained : Agree (record having { form = form.Istream }) two_windows
gained = refl

lost : Agree (record having { early = 1; form = form.Dstream }) two_windows
lost = refl

whole_bags : Agree (record having { early = 0; late = 1; form = form.Rstream }) two_windows
whole_bags = refl

-- ---- SLIDING 60 EVERY 25

sliding : Agree (record base { shape = Sliding (pos 60) (pos 25); early = 2; late = 1 }) (a 5 1 ∷ a 30 2 ∷ w 35 ∷ a 34 3 ∷ b 33 1 ∷ w 60 ∷ [])
sliding = refl

sliding_discarding : Agree (record base { shape = Sliding (pos 60) (pos 25); mode = mode.Discarding; early = 1; late = 2 }) (a 5 1 ∷ w 12 ∷ a 4 2 ∷ w 35 ∷ a 34 3 ∷ w 200 ∷ [])
sliding_discarding = refl

sliding_gained : Agree (record having { shape = Sliding (pos 60) (pos 25); form = form.Istream }) (a 5 1 ∷ a 30 2 ∷ w 35 ∷ a 20 3 ∷ w 70 ∷ a 0 4 ∷ w 135 ∷ [])
sliding_gained = refl

-- ---- SESSION 30

abbrev sessions : Query
sessions = record base { shape = Session (pos 30) }

abbrev joined : List Row
joined = a 0 1 ∷ a 40 1 ∷ b 5 1 ∷ a 20 1 ∷ w 35 ∷ a 75 1 ∷ b 31 1 ∷ a 71 1 ∷ []

sessions_are_joined : Agree sessions joined
sessions_are_joined = refl

joined_sessions_end : AgreeOn sessions (watermark 75 ∷ events (reverse joined))
joined_sessions_end = one_more sessions (events (reverse joined)) (watermark 75) sessions_are_joined refl

all_sessions_end : AgreeOn sessions (watermark 120 ∷ watermark 75 ∷ events (reverse joined))
all_sessions_end = one_more sessions (watermark 75 ∷ events (reverse joined)) (watermark 120) joined_sessions_end refl

sessions_early_and_late : Agree (record sessions { early = 2; late = 1 }) (a 0 1 ∷ a 40 2 ∷ a 20 4 ∷ b 20 1 ∷ w 70 ∷ a 65 1 ∷ w 80 ∷ [])
sessions_early_and_late = refl

sessions_discarding : Agree (with_lateness 40 (record sessions { early = 2; late = 1; mode = mode.Discarding })) (a 0 1 ∷ a 60 1 ∷ a 1 1 ∷ w 35 ∷ a 31 1 ∷ b 0 1 ∷ w 40 ∷ a 30 1 ∷ [])
sessions_discarding = refl

late_and_joined : Agree (with_lateness 40 (record sessions { early = 2; late = 1; mode = mode.Discarding })) (a 0 1 ∷ a 40 1 ∷ w 75 ∷ a 35 1 ∷ a 12 1 ∷ w 110 ∷ [])
late_and_joined = refl

dropped_sessions_are_left : Agree (with_lateness 0 (record sessions { late = 1; mode = mode.Discarding })) (a 10 1 ∷ w 40 ∷ a 39 1 ∷ a 40 1 ∷ a 10 1 ∷ w 69 ∷ a 69 1 ∷ w 70 ∷ a 98 1 ∷ a 100 1 ∷ w 160 ∷ [])
dropped_sessions_are_left = refl

abbrev parts : List Row
parts = a 0 1 ∷ a 40 1 ∷ w 30 ∷ w 70 ∷ a 20 1 ∷ a 20 1 ∷ a 99 1 ∷ w 80 ∷ a 71 1 ∷ []

fired_parts_are_joined : Agree (with_lateness 100 sessions) parts
fired_parts_are_joined = refl

joined_parts_fire : AgreeOn (with_lateness 100 sessions) (watermark 170 ∷ events (reverse parts))
joined_parts_fire = one_more (with_lateness 100 sessions) (events (reverse parts)) (watermark 170) fired_parts_are_joined refl

joined_parts_end : AgreeOn (with_lateness 100 sessions) (watermark 171 ∷ watermark 170 ∷ events (reverse parts))
joined_parts_end = one_more (with_lateness 100 sessions) (watermark 170 ∷ events (reverse parts)) (watermark 171) joined_parts_fire refl

all_parts_end : AgreeOn (with_lateness 100 sessions) (watermark 300 ∷ watermark 171 ∷ watermark 170 ∷ events (reverse parts))
all_parts_end = one_more (with_lateness 100 sessions) (watermark 171 ∷ watermark 170 ∷ events (reverse parts)) (watermark 300) joined_parts_end refl

fired_and_unfired_are_joined : Agree (record having { shape = Session (pos 30); early = 0; form = form.Istream }) (a 0 1 ∷ a 40 2 ∷ w 30 ∷ a 20 3 ∷ w 35 ∷ a 60 4 ∷ w 90 ∷ [])
fired_and_unfired_are_joined = refl

joined_parts_leave_the_bag : Agree (record having { shape = Session (pos 30); early = 0; late = 0; form = form.Rstream }) (a 0 1 ∷ a 40 1 ∷ w 70 ∷ a 20 1 ∷ w 80 ∷ a 60 1 ∷ w 90 ∷ w 210 ∷ [])
joined_parts_leave_the_bag = refl

joined_parts_are_lost : Agree (record having { shape = Session (pos 30); early = 0; late = 1; form = form.Dstream }) (a 0 1 ∷ a 40 1 ∷ b 20 1 ∷ w 70 ∷ a 20 1 ∷ w 71 ∷ w 170 ∷ [])
joined_parts_are_lost = refl

joined_parts_fire_early : Agree (record having { shape = Session (pos 30); late = 0 }) (a 0 1 ∷ a 1 1 ∷ a 40 1 ∷ a 41 1 ∷ a 20 1 ∷ a 21 1 ∷ w 71 ∷ [])
joined_parts_fire_early = refl

-- ---- lateness from a window's end, and two sources

live_windows_alone : Agree (from_window 10 (record base { shape = Sliding (pos 60) (pos 25); early = 1; late = 1 })) (a 30 1 ∷ w 45 ∷ a 5 1 ∷ a 5 2 ∷ w 69 ∷ b 20 1 ∷ a 10 1 ∷ w 70 ∷ a 10 1 ∷ w 200 ∷ [])
live_windows_alone = refl

held_back_by_a_source : Agree (two_sources (record base { late = 1 })) (a 5 7 ∷ w_of 0 90 ∷ a 50 3 ∷ w_of 1 60 ∷ a 51 1 ∷ w_of 1 60 ∷ w_of 1 80 ∷ w_of 0 130 ∷ b 75 1 ∷ w_of 1 140 ∷ [])
held_back_by_a_source = refl

gained_at_a_rise : Agree (two_sources (record having { form = form.Istream; early = 1 })) (a 5 7 ∷ w_of 0 90 ∷ a 50 3 ∷ w_of 1 60 ∷ b 55 4 ∷ w_of 0 95 ∷ w_of 1 80 ∷ w_of 1 200 ∷ w_of 0 300 ∷ [])
gained_at_a_rise = refl

-- ---- RETRACTING

retracting : Agree (record having { mode = mode.Retracting }) two_windows
retracting = refl

retracting_early : Agree (record having { mode = mode.Retracting; early = 1; late = 1 }) (a 5 1 ∷ a 6 2 ∷ w 60 ∷ a 7 3 ∷ w 160 ∷ [])
retracting_early = refl

retracting_sessions : Agree (record having { shape = Session (pos 30); mode = mode.Retracting; late = 0 }) (a 0 2 ∷ a 40 2 ∷ b 5 2 ∷ w 70 ∷ a 20 4 ∷ w 170 ∷ [])
retracting_sessions = refl

retracting_parts : Agree (record having { shape = Session (pos 30); mode = mode.Retracting; early = 1; late = 1 }) (a 0 2 ∷ a 40 2 ∷ a 20 4 ∷ w 75 ∷ [])
retracting_parts = refl

retracting_live_windows : Agree (from_window 10 (record base { shape = Sliding (pos 60) (pos 25); mode = mode.Retracting; late = 1 })) (w 45 ∷ a 5 1 ∷ w 60 ∷ a 30 2 ∷ w 70 ∷ [])
retracting_live_windows = refl

retracting_at_a_rise : Agree (two_sources (record base { mode = mode.Retracting })) (a 5 7 ∷ w_of 0 90 ∷ w_of 1 60 ∷ a 55 1 ∷ w_of 0 95 ∷ w_of 1 75 ∷ [])
retracting_at_a_rise = refl
