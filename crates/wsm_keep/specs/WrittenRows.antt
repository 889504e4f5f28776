-- Worked rows on how many rows are written for sessions that stay. Histories are written oldest row first.
use Rattle.std.specs.Prelude.{◌≡◌, refl, List, [], ◌∷◌, length, reverse, pos}
use Rattle.wsm_record.specs.Event.{Event}
use Rattle.wsm_record.specs.declared.words.Mode.TheVariants.{Retracting}
use Rattle.wsm_windows.specs.declared.window.PaneKind.TheVariants.{Late, OnTime}
use Rattle.wsm_windows.specs.declared.window.Shape.TheVariants.{Session, Sliding}
use Rattle.wsm_windows.specs.Windows.{window}
use Rattle.wsm_semantics.specs.declared.out_row.OutRow.TheVariants.{Pane, Retract}
use Rattle.wsm_semantics.specs.Query.{Query}
use Rattle.wsm_semantics.specs.Lines.{Row, events}
use Rattle.wsm_semantics.specs.Rows.{a, base, ints, w, with_lateness}
use Rattle.wsm_semantics.specs.FromWatermark.{dropped_times}
use Rattle.wsm_semantics.specs.Needed.{needed}
use Rattle.wsm_semantics.specs.LastingRows.{rows_so_far}
use Rattle.wsm_keep.specs.WrittenBeyond.{rows_beyond}

abbrev past_of : List Row → List Event
past_of rows = events (reverse rows)

-- sessions with a gap of 10, LATENESS 10
abbrev q : Query
q = record base { shape = Session (pos 10) }

abbrev past : List Event
past = past_of (a 1 1 ∷ w 12 ∷ a 20 2 ∷ w 22 ∷ w 24 ∷ a 25 3 ∷ w 33 ∷ w 36 ∷ a 29 4 ∷ w 38 ∷ w 40 ∷ [])

-- at the watermark 40 the session from 20 stays, which was written twice; that from 1 was written too
all_rows : length (rows_so_far q past) ≡ 3
all_rows = refl

of_the_one_that_stays : rows_beyond (dropped_times q past) (rows_so_far q past)
    ≡ Pane OnTime 0 (window (pos 20) (pos 35)) (ints (2 ∷ 5 ∷ [])) ∷ Pane OnTime 0 (window (pos 20) (pos 39)) (ints (3 ∷ 9 ∷ [])) ∷ []
of_the_one_that_stays = refl

-- and a run over the needed events writes it twice, by watermarks of which each stands for two
by_needed_events : (needed q past ≡ past_of (w 12 ∷ a 20 2 ∷ w 24 ∷ a 25 3 ∷ w 36 ∷ a 29 4 ∷ w 40 ∷ [])) × (length (rows_so_far q (needed q past)) ≡ 2)
by_needed_events = (refl, refl)

-- and of sessions that retract, with LATENESS 20: of those from 40 and from 52 each is written, and both are withdrawn where a late record joins
-- them; that from 1, of which a row is withdrawn too, goes
abbrev retracting : Query
retracting = record (with_lateness 20 base) { shape = Session (pos 10); mode = Retracting; late = 1 }

abbrev joined : List Event
joined = past_of (a 1 1 ∷ w 12 ∷ a 5 2 ∷ w 20 ∷ a 40 3 ∷ a 52 4 ∷ w 55 ∷ w 62 ∷ a 45 5 ∷ [])

all_of_joined : length (rows_so_far retracting joined) ≡ 8
all_of_joined = refl

of_those_joined : rows_beyond (dropped_times retracting joined) (rows_so_far retracting joined)
    ≡ Pane OnTime 0 (window (pos 40) (pos 50)) (ints (1 ∷ 3 ∷ []))
    ∷ Pane OnTime 0 (window (pos 52) (pos 62)) (ints (1 ∷ 4 ∷ []))
    ∷ Retract 0 (window (pos 40) (pos 50)) (ints (1 ∷ 3 ∷ []))
    ∷ Retract 0 (window (pos 52) (pos 62)) (ints (1 ∷ 4 ∷ []))
    ∷ Pane Late 0 (window (pos 40) (pos 62)) (ints (3 ∷ 12 ∷ []))
    ∷ []
of_those_joined = refl

joined_by_needed : (needed retracting joined ≡ past_of (w 20 ∷ a 40 3 ∷ a 52 4 ∷ w 62 ∷ a 45 5 ∷ [])) × (length (rows_so_far retracting (needed retracting joined)) ≡ 5)
joined_by_needed = (refl, refl)

-- windows that overlap aren't so: a record of one that stays is written of another one too
abbrev sliding : Query
sliding = record base { shape = Sliding (pos 20) (pos 10) }

abbrev of_two_windows : List Event
of_two_windows = past_of (a 15 1 ∷ w 31 ∷ [])

more_are_written : (length (rows_beyond (dropped_times sliding of_two_windows) (rows_so_far sliding of_two_windows)) ≡ 1) × (length (rows_so_far sliding (needed sliding of_two_windows)) ≡ 2)
more_are_written = (refl, refl)
