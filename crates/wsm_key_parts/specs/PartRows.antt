-- Worked rows of parts: three keys in parts of two places. Rows are written as they are read, the oldest first.
use Rattle.std.specs.Prelude.{◌≡◌, refl, ℕ, List, [], ◌∷◌, ◌++◌, reverse, pos, Some, Ok, codes}
use Rattle.wsm_record.specs.declared.event.Value.TheVariants.{Int}
use Rattle.wsm_record.specs.declared.words.Mode.TheVariants as mode
use Rattle.wsm_record.specs.Event.{Event, Record, Watermark}
use Rattle.wsm_windows.specs.declared.window.PaneKind.{PaneKind}
use Rattle.wsm_windows.specs.declared.window.PaneKind.TheVariants.{OnTime, Late, Final}
use Rattle.wsm_windows.specs.Windows.{window}
use Rattle.wsm_admission.specs.declared.verdict.Refusal.TheVariants as refusal
use Rattle.wsm_semantics.specs.declared.out_row.OutRow.TheVariants.{Pane, Retract}
use Rattle.wsm_semantics.specs.Query.{Query}
use Rattle.wsm_semantics.specs.Lines.{Row, Line, Out, Refused, End}
use Rattle.wsm_semantics.specs.Rows.{base, a, b, w, ints}
use Rattle.wsm_key_parts.specs.OpenedLate.{openers}
use Rattle.wsm_key_parts.specs.Parts.{after_rows, part_lines, part_end}

abbrev three : Query
three = record base { declared = record base.declared { keys = codes "a" ∷ codes "b" ∷ codes "c" ∷ [] } }

abbrev places : List (List ℕ)
places = codes "0" ∷ codes "1" ∷ []

abbrev c : ℕ → ℕ → Row
c time n = Ok (Record (Some 2) (pos time) (Int (pos n) ∷ []))

abbrev pane : PaneKind → ℕ → ℕ → ℕ → List ℕ → Line
pane kind key start end columns = Out (Pane kind key (window (pos start) (pos end)) (ints columns))

abbrev retract : ℕ → ℕ → ℕ → List ℕ → Line
retract key start end columns = Out (Retract key (window (pos start) (pos end)) (ints columns))

-- the lines of all turns, behind rows of which the newest stands first
abbrev lines_behind : Query → List Row → List Line
lines_behind q [] = []
lines_behind q (row ∷ before) = lines_behind q before ++ part_lines places q.clock.records q (after_rows places q.clock.records q before) row

abbrev written : Query → List Row → List Line
written q rows = lines_behind q (reverse rows) ++ part_end places q.clock.records q (after_rows places q.clock.records q (reverse rows)) ∷ []

-- what a part was fed
abbrev fed : ℕ → Query → List Row → List Event
fed part q rows = (after_rows places q.clock.records q (reverse rows)).fed part

-- panes of one watermark, by window and then by key over both parts
by_window_and_key :
    written three (b 65 1 ∷ c 5 2 ∷ a 70 4 ∷ c 66 8 ∷ a 6 16 ∷ w 120 ∷ [])
    ≡ pane OnTime 0 0 60 (1 ∷ 16 ∷ []) ∷ pane OnTime 2 0 60 (1 ∷ 2 ∷ []) ∷ pane OnTime 0 60 120 (1 ∷ 4 ∷ [])
    ∷ pane OnTime 1 60 120 (1 ∷ 1 ∷ []) ∷ pane OnTime 2 60 120 (1 ∷ 8 ∷ []) ∷ End 6 5 0 0 5 ∷ []
by_window_and_key = refl

-- a part is opened by its first record, at the watermark as it is, and has its keys by their places
opened_late :
    fed 1 three (a 5 7 ∷ w 20 ∷ w 30 ∷ c 40 1 ∷ b 41 2 ∷ w 60 ∷ [])
    ≡ Watermark (Some 0) (pos 60) ∷ Record (Some 0) (pos 40) (Int (pos 1) ∷ []) ∷ Watermark (Some 0) (pos 30) ∷ []
opened_late = refl

-- so it has a record that is late
late_in_a_part :
    written three (a 5 7 ∷ w 60 ∷ c 49 1 ∷ c 50 2 ∷ w 70 ∷ [])
    ≡ pane OnTime 0 0 60 (1 ∷ 7 ∷ []) ∷ pane Final 2 0 60 (1 ∷ 2 ∷ []) ∷ End 5 2 1 0 2 ∷ []
late_in_a_part = refl

-- what is refused opens no part
none_opened : fed 1 three (a 5 7 ∷ c 101 1 ∷ w 60 ∷ []) ≡ []
none_opened = refl

-- RECORDS counts the records of all parts
all_records_count :
    written (record three { clock = record three.clock { records = pos 2 } }) (a 5 1 ∷ c 6 1 ∷ c 7 1 ∷ w 60 ∷ [])
    ≡ Refused 3 refusal.RecordLimit ∷ pane OnTime 0 0 60 (1 ∷ 1 ∷ []) ∷ pane OnTime 2 0 60 (1 ∷ 1 ∷ []) ∷ End 4 2 0 1 2 ∷ []
all_records_count = refl

-- what a record withdraws and writes is of its part alone
withdrawn_in_a_part :
    written (record three { mode = mode.Retracting; late = 1 }) (a 5 1 ∷ c 6 2 ∷ w 60 ∷ c 55 4 ∷ [])
    ≡ pane OnTime 0 0 60 (1 ∷ 1 ∷ []) ∷ pane OnTime 2 0 60 (1 ∷ 2 ∷ []) ∷ retract 2 0 60 (1 ∷ 2 ∷ []) ∷ pane Late 2 0 60 (2 ∷ 6 ∷ []) ∷ End 4 3 0 0 3 ∷ []
withdrawn_in_a_part = refl

-- a source that is at its start needs no watermark
of_two_sources : openers (pos 10) 0 (pos 10 ∷ pos 30 ∷ []) ≡ Watermark (Some 1) (pos 30) ∷ []
of_two_sources = refl
