-- What rows with watermarks among them are read as: the events of the lines' turns, in their order.
use Rattle.std.specs.Prelude.{◌≡◌, ◌==◌, ◌&&◌, ◌+◌, ℕ, Bool, false, List, [], ◌∷◌, ◌++◌, length, map, ℤ, int_lt, Option, Some, Ok, Err, if◌then◌else◌}
use Rattle.std.specs.List.{AllByRecursion, list_any}
use Rattle.wsm_record.specs.declared.limits.TheConstants.{LATEST_TIME}
use Rattle.wsm_record.specs.Event.{Watermark}
use Rattle.wsm_admission.specs.Clock.{source_mark}
use Rattle.wsm_semantics.specs.Lines.{Row}
use Rattle.wsm_csv.specs.Cells.{event_of_cells}
use Rattle.wsm_csv.specs.Records.{AreAll}
use Rattle.wsm_turns.specs.Numbered.{Numbered}
use Rattle.wsm_turns.specs.Turns.{Setting, at_end}
use Rattle.wsm_row_watermarks.specs.Lines.{Line, Said, lines_read}
use Rattle.wsm_row_watermarks.specs.Turns.{gone, row_turn, state_of, text}

abbrev pub events_of : List Numbered → List Row
events_of gs = map (λ g. Ok g.event) gs

-- a line that is no row goes on as one that is none, unless it has no byte; for another its turn's events go on
abbrev pub fed_by : Said → List ℕ → List Numbered → List Row
fed_by (Err why) [] gs = []
fed_by (Err why) (b ∷ bs) gs = Err why ∷ []
fed_by (Ok x) text gs = events_of gs

-- lines, the newest first, and what goes on for them, the first first
abbrev pub fed_of : Setting → List Line → List Row
fed_of w [] = []
fed_of w (line ∷ before) = fed_of w before ++ fed_by line.said line.text (row_turn w (state_of w before) (length before + 1) line).goes

-- the last watermark, where it is asked for and the first source hasn't come to it
abbrev pub last_fed : Bool → ℤ → List Row
last_fed last first = if last && int_lt first LATEST_TIME then Ok (Watermark (Some 0) LATEST_TIME) ∷ [] else []

-- behind lines what waits goes on, and the last watermark
abbrev pub all_fed : Setting → Bool → List Line → List Row
all_fed w last lines = fed_of w lines ++ (events_of (at_end (state_of w lines).kept) ++ last_fed last (source_mark w.clock 0 (gone w lines)))

-- no line has a line feed
abbrev pub IsLine : List ℕ → Type 0
IsLine line = list_any (λ b. b == 10) line ≡ false

abbrev pub AreLines : List (List ℕ) → Type 0
AreLines lines = AllByRecursion IsLine lines

-- the rows that are written for lines, the newest first, are read by `csv` as these, and say that
pub record AreFed (w : Setting) (once : Option ℕ) (last : Bool) (lines : List (List ℕ)) (rows : List (List (List ℕ))) : Type 0 where
  pub all : AreAll (Some (text w last (lines_read w.declared once lines))) rows
  pub events : map (event_of_cells w.declared) rows ≡ all_fed w last (lines_read w.declared once lines)
