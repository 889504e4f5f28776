-- What a run over a log by any number of names writes for the lines that it reads, and how it ends. Lines are the oldest first here.
use Rattle.std.specs.Prelude.{◌≡◌, ◌⊎◌, ℕ, List, ◌++◌, Option, reverse}
use Rattle.std.specs.Io.KnownBytes.{Appends}
use Rattle.wsm_csv.specs.Device.{TakesPart}
use Rattle.wsm_semantics.specs.declared.ending.Totals.{Totals}
use Rattle.wsm_log.specs.LinesOf.{AreAll, AreFirst}
use Rattle.wsm_log_rows.specs.declared.end.LogEnd.{LogEnd}
use Rattle.wsm_log_rows.specs.declared.end.LogEnd.TheVariants as ends
use Rattle.wsm_log_text.specs.declared.totals.LogCounts.{LogCounts}
use Rattle.wsm_log_text.specs.Counts.{counts_of}
use Rattle.wsm_log_text.specs.LogText.{line_of}
use Rattle.wsm_keyed_intake.specs.declared.intake.KeyedIntake.{KeyedIntake}
use Rattle.wsm_keyed_intake.specs.KeyedLog.{KeyedLog, last_line, log_text, log_turns, names_of, query_behind, said_by, turns_text}
use Rattle.wsm_keyed_intake.specs.Turns.{Fits}

-- these bytes are the turns of lines, the newest first, by the names that came and by all that come later
abbrev pub IsTextOf : KeyedLog → List (List ℕ) → List ℕ → Type 0
IsTextOf g lines bytes = (later : List (List ℕ)) → bytes ≡ turns_text g.program (names_of g (later ++ lines)) g.clocks (said_by g (names_of g (later ++ lines)) lines)

-- a run that ends well: it read all lines, and wrote what one query over all names means for them
pub record Completes (known : Option (List ℕ)) (g : KeyedLog) (lines : List (List ℕ)) (old new : Option (List ℕ)) (totals : Totals) : Type 0 where
  pub all : AreAll g.source.longest known lines
  pub text : Appends old new (log_text g (reverse lines))
  pub numbers : line_of totals ≡ last_line g.program (names_of g (reverse lines)) g.clocks (said_by g (names_of g (reverse lines)) (reverse lines))

-- a run that ends between two turns: it wrote the turns of the first lines, each whole
pub record BreaksOff (known : Option (List ℕ)) (g : KeyedLog) (lines : List (List ℕ)) (old new : Option (List ℕ)) : Type 0 where
  pub first : AreFirst g.source.longest known lines
  pub text : Appends old new (log_turns g (reverse lines))

-- a run that ends within a turn: it wrote a beginning of the turns of the lines that it read
pub record BreaksWithin (known : Option (List ℕ)) (g : KeyedLog) (lines : List (List ℕ)) (old new : Option (List ℕ)) : Type 0 where
  pub first : AreFirst g.source.longest known lines
  pub part : TakesPart old new (log_turns g (reverse lines))

-- a run that ends behind its turns: it read all lines, and wrote a beginning of their text
pub record BreaksLast (known : Option (List ℕ)) (g : KeyedLog) (lines : List (List ℕ)) (old new : Option (List ℕ)) : Type 0 where
  pub all : AreAll g.source.longest known lines
  pub part : TakesPart old new (log_text g (reverse lines))

-- how a run ends early: want of memory and of lines comes between turns, a failed device anywhere
abbrev pub EndsEarly : Option (List ℕ) → KeyedLog → List (List ℕ) → Option (List ℕ) → Option (List ℕ) → LogEnd → Type 0
EndsEarly known g lines old new ends.Memory = BreaksOff known g lines old new
EndsEarly known g lines old new ends.ReadFailed = BreaksOff known g lines old new
EndsEarly known g lines old new ends.WriteFailed = BreaksWithin known g lines old new ⊎ BreaksLast known g lines old new

-- the turns of these lines were taken, and their bytes written
pub record Stands (g : KeyedLog) (lines : List (List ℕ)) (old now : Option (List ℕ)) (t : KeyedIntake) : Type 0 where
  pub fits : Fits g t (reverse lines)
  pub bytes : List ℕ
  pub is : IsTextOf g (reverse lines) bytes
  pub text : Appends old now bytes

-- all lines were read, and what one query over all names means for them was written
abbrev pub KeyedLogWritten : Option (List ℕ) → KeyedLog → Option (List ℕ) → Option (List ℕ) → Totals → Type 0
KeyedLogWritten known g old new totals = (lines : List (List ℕ)) × Completes known g lines old new totals

-- all lines were read, and this is what is counted of them
abbrev pub KeyedLogCounted : Option (List ℕ) → KeyedLog → LogCounts → Type 0
KeyedLogCounted known g counts = (lines : List (List ℕ)) × AreAll g.source.longest known lines
    × (counts ≡ counts_of (query_behind g (reverse lines)) g.clocks (said_by g (names_of g (reverse lines)) (reverse lines)))

-- a beginning of that was written
abbrev pub KeyedLogBroken : Option (List ℕ) → KeyedLog → Option (List ℕ) → Option (List ℕ) → LogEnd → Type 0
KeyedLogBroken known g old new end = (lines : List (List ℕ)) × EndsEarly known g lines old new end
