-- What takes the lines of a log, as it is seen.
use Rattle.std.specs.Prelude.{◌≡◌, ◌&&◌, ℕ, Bool, List}
use Rattle.wsm_intake.specs.declared.intake.Intake.{Intake}
use Rattle.wsm_intake.specs.GoesOn.{GoesOn}
use Rattle.wsm_intake.specs.Saved.{Saved, can_say, keeps_events}
use Rattle.wsm_live_run.specs.declared.log_lines.LogLines.{LogLines}
use Rattle.wsm_live_run.specs.Turns.{TakenBy}

-- it takes lines by that, and writes for those that come what is written behind these, the newest first: it took them, or goes on from
-- what they came to
pub record Stands (l : LogLines) (by : TakenBy) (before : List (List ℕ)) : Type 0 where
  pub clocks : l.clocks ≡ by.clocks
  pub goes_on : GoesOn by.source by.clocks by.program l.intake before

-- a text says what these lines come to
abbrev pub SavedBy : List ℕ → TakenBy → List (List ℕ) → Type 0
SavedBy text by before = Saved by.source by.clocks by.program before text

-- it can be said what they come to, and the events that are needed are kept
abbrev pub can_say_of : LogLines → TakenBy → List (List ℕ) → Bool
can_say_of l by before = can_say by.source by.clocks by.program before && keeps_events l.intake

abbrev pub bytes_of : LogLines → List ℕ
bytes_of l = l.intake.told.lines.items

abbrev pub intake_of : LogLines → Intake
intake_of l = l.intake
