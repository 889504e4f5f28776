-- What lines of rows come to, one behind the other: the watermarks of clocks among them, records that wait, and doubles, by
-- wsm_turns/specs/Turns.antt. Lines come the newest first.
use Rattle.std.specs.Prelude.{◌==◌, ◌&&◌, ◌+◌, ◌++◌, ℕ, Bool, false, List, [], ◌∷◌, length, map, ℤ, Option, Some, None, option_map, Ok, Err, codes, if◌then◌else◌, unsigned_abs, int_lt, nat_lt, is_err, is_some}
use Rattle.std.specs.Fmt.{signed_decimal}
use Rattle.wsm_record.specs.declared.limits.TheConstants.{LATEST_TIME}
use Rattle.wsm_record.specs.Event.{Event, Record, Watermark}
use Rattle.wsm_record.specs.Schema.{Declared}
use Rattle.wsm_windows.specs.Limits.{is_time}
use Rattle.wsm_admission.specs.Admission.{counter}
use Rattle.wsm_admission.specs.Clock.{is_source, late_count, source_mark}
use Rattle.wsm_log_rows.specs.Rows.{event_row}
use Rattle.wsm_turns.specs.declared.clocks.Clocks.{Clocks}
use Rattle.wsm_turns.specs.declared.voice.Voice.TheVariants.{Key}
use Rattle.wsm_turns.specs.Numbered.{Numbered}
use Rattle.wsm_turns.specs.Heard.{heard}
use Rattle.wsm_turns.specs.Noted.{noted_by, raised}
use Rattle.wsm_turns.specs.Turns.{Kept, Setting, Spoken, Turn, at_end, fed_with, going, is_double, numbered, start_of, stamp_of, turn_by, watermark}
use Rattle.wsm_row_watermarks.specs.declared.counts.Counts.{Counts}
use Rattle.wsm_row_watermarks.specs.declared.counts.Totals.{Totals}
use Rattle.wsm_row_watermarks.specs.Latest.{latest_time}
use Rattle.wsm_row_watermarks.specs.Lines.{Line, Said}

-- ---- texts

-- a line without a byte is no row, and none goes on for it
abbrev pub with_feed : List ℕ → List ℕ
with_feed [] = []
with_feed (b ∷ bs) = (b ∷ bs) ++ 10 ∷ []

-- the first source, if there are sources, and a comma
abbrev pub source_text : List (List ℕ) → List ℕ
source_text [] = []
source_text (name ∷ names) = name ++ 44 ∷ []

-- the row of a watermark of the first source
abbrev pub mark_row : Declared → ℤ → List ℕ
mark_row d time = codes "w," ++ source_text d.sources ++ signed_decimal time ++ 10 ∷ []

-- a record of this line goes on as the line, one that waited as the row that says it
abbrev pub record_text : Declared → List ℕ → Bool → Event → List ℕ
record_text d line own e = if own then with_feed line else event_row d e

-- the row of what goes on at the line of a number
abbrev pub event_text : Declared → ℕ → List ℕ → ℕ → Event → List ℕ
event_text d number line of (Record key time values) = record_text d line (of == number) (Record key time values)
event_text d number line of (Watermark source time) = mark_row d time

-- the rows of what goes on, the first first
abbrev pub events_text : Declared → ℕ → List ℕ → List Numbered → List ℕ
events_text d number line [] = []
events_text d number line (g ∷ gs) = event_text d number line g.number g.event ++ events_text d number line gs

-- ---- turns

-- the clocks, and what is kept of lines
pub record State : Type 0 where
  pub clocks : Option Clocks
  pub kept : Kept

abbrev pub setting_in : Setting → State → Setting
setting_in w s = record w { clocks = s.clocks }

-- what goes on at a line, its rows, and the state then
pub record RowTurn : Type 0 where
  pub goes : List Numbered
  pub text : List ℕ
  pub state : State

-- what goes on in front of a row that is a watermark, and the row
abbrev pub told_behind : Setting → ℕ → Line → Event → List Numbered → State → RowTurn
told_behind w number line e front s =
    let t = going w s.kept (front ++ record { number = number; event = e } ∷ []) in
    record { goes = t.goes; text = events_text w.declared number line.text front ++ with_feed line.text; state = record s { kept = t.kept } }

-- a watermark that counts as told: one of the first source, at a time
abbrev pub told_at : Option ℕ → ℤ → Option ℕ
told_at source time = if is_source 0 source && is_time time then Some (unsigned_abs time) else None

-- behind it none that is lower is told, and what waits and isn't ahead of it goes in front of it
abbrev pub marked : Setting → State → ℕ → Line → Event → Option ℕ → RowTurn
marked w s number line e None = told_behind w number line e [] s
marked w s number line e (Some mark) =
    let went = noted_by s.clocks s.kept mark in
    told_behind w number line e (map (numbered number) went.out)
    (record { clocks = option_map (raised mark) s.clocks; kept = record s.kept { told = went.mark; waits = went.held } })

-- the turn of a record is that of any line
abbrev pub recorded_by : Setting → State → ℕ → Line → Turn → RowTurn
recorded_by w s number line t = record { goes = t.goes; text = events_text w.declared number line.text t.goes; state = record s { kept = t.kept } }

abbrev pub recorded : Setting → State → ℕ → Line → Spoken → RowTurn
recorded w s number line x = recorded_by w s number line (turn_by (setting_in w s) s.kept number (stamp_of w.declared x.event) x)

abbrev pub turn_at : Setting → State → ℕ → Line → Option (List ℕ) → Event → RowTurn
turn_at w s number line identifier (Record key time values) = recorded w s number line (record { event = Record key time values; identifier = identifier; voice = Key })
turn_at w s number line identifier (Watermark source time) = marked w s number line (Watermark source time) (told_at source time)

-- the turn of the line of a number: one that is no row goes on as it is
abbrev pub turn_by_said : Setting → State → ℕ → Line → Said → RowTurn
turn_by_said w s number line (Err why) = record { goes = []; text = with_feed line.text; state = s }
turn_by_said w s number line (Ok x) = turn_at w s number line x.identifier x.event

abbrev pub row_turn : Setting → State → ℕ → Line → RowTurn
row_turn w s number line = turn_by_said w s number line line.said

-- before the first line
abbrev pub begun : Setting → State
begun w = record { clocks = w.clocks; kept = record { stamps = []; told = start_of w.clocks; waits = []; fed = []; memory = [] } }

-- behind lines
abbrev pub state_of : Setting → List Line → State
state_of w [] = begun w
state_of w (line ∷ before) = (row_turn w (state_of w before) (length before + 1) line).state

-- the rows that are written for lines
abbrev pub rows_text : Setting → List Line → List ℕ
rows_text w [] = []
rows_text w (line ∷ before) = rows_text w before ++ (row_turn w (state_of w before) (length before + 1) line).text

-- what went on of lines and at their end, the newest first
abbrev pub gone : Setting → List Line → List Event
gone w lines = let k = (state_of w lines).kept in fed_with k.fed (at_end k)

-- the last watermark that there is, by which all windows are complete, where it is asked for and the first source hasn't come to it
abbrev pub last_row : Declared → Bool → ℤ → List ℕ
last_row d last first = if last && int_lt first LATEST_TIME then mark_row d LATEST_TIME else []

-- those that are written at the end, where what waits goes on: no line is taken
abbrev pub rest_text : Setting → Bool → List Line → List ℕ
rest_text w last lines = events_text w.declared 0 [] (at_end (state_of w lines).kept) ++ last_row w.declared last (source_mark w.clock 0 (gone w lines))

abbrev pub text : Setting → Bool → List Line → List ℕ
text w last lines = rows_text w lines ++ rest_text w last lines

-- ---- counts

-- no row, and not a line without a byte
abbrev pub is_unread : Line → Bool
is_unread line = is_err line.said && nat_lt 0 (length line.text)

-- a record with an identifier that is remembered
abbrev pub is_left_out : Setting → State → Said → Bool
is_left_out w s (Err why) = false
is_left_out w s (Ok x) = is_some (stamp_of w.declared x.event) && is_double x.identifier s.kept.memory

abbrev pub one_if : Bool → ℕ
one_if b = if b then 1 else 0

abbrev pub unread_count : List Line → ℕ
unread_count [] = 0
unread_count (line ∷ before) = unread_count before + one_if (is_unread line)

abbrev pub double_count : Setting → List Line → ℕ
double_count w [] = 0
double_count w (line ∷ before) = double_count w before + one_if (is_left_out w (state_of w before) line.said)

-- what lines came to, as far as 64 bits count
abbrev pub counts_of : Setting → List Line → Counts
counts_of w lines = record { lines = length lines; unread = counter (unread_count lines); doubles = counter (double_count w lines) }

-- what rows came to: how many records were late when they went on, and which the latest is, is by the query's own clock, as of a run over
-- what is written
abbrev pub totals_of : Setting → List Line → Totals
totals_of w lines = let s = state_of w lines in record {
  counts = counts_of w lines;
  late = counter (late_count w.clock w.shape w.declared (gone w lines));
  latest = latest_time w.clock w.shape w.declared (gone w lines);
  mark = watermark w (gone w lines);
  heard = heard s.clocks s.kept;
}
