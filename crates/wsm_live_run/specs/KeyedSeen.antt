-- What takes the lines of a log by any number of names, as it is seen.
use Rattle.std.specs.Prelude.{◌≡◌, ◌&&◌, ℕ, Bool, List}
use Rattle.wsm_keyed_intake.specs.declared.intake.KeyedIntake.{KeyedIntake}
use Rattle.wsm_keyed_intake.specs.KeyedLog.{KeyedLog}
use Rattle.wsm_keyed_intake.specs.GoesOn.{GoesOn}
use Rattle.wsm_keyed_intake.specs.Saved.{Saved, can_say, keeps_events}
use Rattle.wsm_live_run.specs.declared.keyed_log_lines.KeyedLogLines.{KeyedLogLines}
use Rattle.wsm_live_run.specs.KeyedTurns.{AreAllTurns}

-- it took these lines, the newest first, or goes on from what they came to, and what was written for them hangs on no name that comes later
pub record KeyedStands (l : KeyedLogLines) (g : KeyedLog) (before : List (List ℕ)) : Type 0 where
  pub clocks : l.clocks ≡ g.clocks
  pub goes_on : GoesOn g l.intake before
  pub turns : AreAllTurns g before

-- a text says what these lines come to, for which was written what hangs on no name that comes later
pub record KeyedSavedBy (text : List ℕ) (g : KeyedLog) (before : List (List ℕ)) : Type 0 where
  pub saved : Saved g before text
  pub turns : AreAllTurns g before

-- it can be said what they come to, and the events that are needed are kept
abbrev pub keyed_can_say : KeyedLogLines → KeyedLog → List (List ℕ) → Bool
keyed_can_say l g before = can_say g before && keeps_events l.intake

abbrev pub keyed_bytes_of : KeyedLogLines → List ℕ
keyed_bytes_of l = l.intake.told.lines.items

abbrev pub keyed_intake_of : KeyedLogLines → KeyedIntake
keyed_intake_of l = l.intake
