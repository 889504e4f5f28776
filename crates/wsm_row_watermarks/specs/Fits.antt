-- What is kept of rows, and how it fits the lines so far.
use Rattle.std.specs.Prelude.{◌≡◌, ◌++◌, ◌+◌, ◌<◌, ℕ, Bool, List, ◌∷◌, length, Option}
use Rattle.wsm_admission.specs.Admission.{counter}
use Rattle.wsm_admission.specs.Clock.{fits_declared}
use Rattle.wsm_csv.specs.EventReader.{event_read, fits_read}
use Rattle.wsm_turns.specs.Known.{Remembers}
use Rattle.wsm_turns.specs.declared.voice.Voice.TheVariants.{Key}
use Rattle.wsm_turns.specs.Turns.{Setting, Spoken, watermark}
use Rattle.wsm_turns.specs.Waits.{Hear}
use Rattle.wsm_row_watermarks.specs.Handed.{Serves}
use Rattle.wsm_row_watermarks.specs.Lines.{Line, is_first, line_of, lines_read, some_text, text_of}
use Rattle.wsm_row_watermarks.specs.Turns.{RowTurn, State, counts_of, one_if, rest_text, row_turn, state_of, totals_of}
use Rattle.wsm_row_watermarks.specs.declared.counts.Totals.{Totals}
use Rattle.wsm_row_watermarks.specs.declared.turns.RowTurns.{RowTurns}

-- what is kept, by a query's setting
pub record Holds (w : Setting) (t : RowTurns) (s : State) : Type 0 where
  pub told : Serves w t.handed s.kept.fed
  pub waiting : Hear s.clocks (length w.declared.keys) t.waiting s.kept.stamps s.kept.told s.kept.waits
  pub remembers : Remembers w (watermark w s.kept.fed) t.identifiers s.kept.memory

-- one more is counted, if there is one
abbrev pub CountsIf : Bool → ℕ → ℕ → Type 0
CountsIf b old new = (n : ℕ) → old ≡ counter n → new ≡ counter (n + one_if b)

-- a turn was taken, with its rows behind those that were there. Its line is counted where it is no row, or is left out
pub record Goes (w : Setting) (old new : RowTurns) (turn : RowTurn) (odd double : Bool) : Type 0 where
  pub holds : Holds w new turn.state
  pub text : new.handed.text.items ≡ old.handed.text.items ++ turn.text
  pub once : new.once ≡ old.once
  pub lines : new.counts.lines ≡ old.counts.lines
  pub unread : CountsIf odd old.counts.unread new.counts.unread
  pub doubles : CountsIf double old.counts.doubles new.counts.doubles

-- the turn of a line has begun: it is the next one, and has this text
pub record Begins (w : Setting) (t : RowTurns) (s : State) (text : List ℕ) : Type 0 where
  pub holds : Holds w t s
  pub line : t.handed.line.items ≡ text
  pub number : t.handed.number ≡ t.counts.lines
  pub few : length s.kept.stamps < t.counts.lines

-- what was read last, on the clock of its key
abbrev pub spoken_read : RowTurns → Spoken
spoken_read t = record { event = event_read t.events; identifier = some_text t.row.identifier.items; voice = Key }

-- whether its values fit is known
abbrev pub IsJudged : RowTurns → Type 0
IsJudged t = fits_read t.events ≡ fits_declared t.handed.schema (event_read t.events)

-- the lines, with those before them, the newest first
abbrev pub read_by : Setting → Option ℕ → List (List ℕ) → List Line
read_by w once before = lines_read w.declared once before

abbrev pub line_by : Setting → Option ℕ → List (List ℕ) → List ℕ → Line
line_by w once before line = line_of w.declared once (text_of (is_first before) line)

-- after lines
pub record Fits (w : Setting) (place : Option ℕ) (t : RowTurns) (before : List (List ℕ)) : Type 0 where
  pub holds : Holds w t (state_of w (read_by w place before))
  pub once : t.once ≡ place
  pub counts : t.counts ≡ counts_of w (read_by w place before)

-- one line more, with its rows
pub record Turned (w : Setting) (once : Option ℕ) (new : RowTurns) (before : List (List ℕ)) (line : List ℕ) : Type 0 where
  pub fits : Fits w once new (line ∷ before)
  pub text : new.handed.text.items ≡ (row_turn w (state_of w (read_by w once before)) (length (read_by w once before) + 1) (line_by w once before line)).text

-- at the end, with the rows that waited
pub record Ends (w : Setting) (once : Option ℕ) (last : Bool) (new : RowTurns) (lines : List (List ℕ)) (told : Totals) : Type 0 where
  pub text : new.handed.text.items ≡ rest_text w last (read_by w once lines)
  pub totals : told ≡ totals_of w (read_by w once lines)
