-- What a run over a log writes for the lines that it reads, and how it ends. Lines are the oldest first here.
use Rattle.std.specs.Prelude.{◌≡◌, ◌⊎◌, ℕ, List, Option, reverse}
use Rattle.std.specs.Io.KnownBytes.{Appends}
use Rattle.wsm_csv.specs.Device.{TakesPart}
use Rattle.wsm_semantics.specs.Query.{Query}
use Rattle.wsm_semantics.specs.declared.ending.Totals.{Totals}
use Rattle.wsm_program.specs.Program.{Program}
use Rattle.wsm_machine.specs.Meaning.{query_of}
use Rattle.wsm_lines.specs.declared.source.Source.{Source}
use Rattle.wsm_log.specs.LinesOf.{AreAll, AreFirst}
use Rattle.wsm_turns.specs.declared.clocks.Clocks.{Clocks}
use Rattle.wsm_intake.specs.declared.intake.Intake.{Intake}
use Rattle.wsm_log_text.specs.declared.totals.LogCounts.{LogCounts}
use Rattle.wsm_log_text.specs.Counts.{counts_of}
use Rattle.wsm_log_rows.specs.declared.end.LogEnd.{LogEnd}
use Rattle.wsm_log_rows.specs.declared.end.LogEnd.TheVariants as ends
use Rattle.wsm_log_text.specs.LogText.{Said, said, end_line, text, turns_text, line_of}
use Rattle.wsm_intake.specs.Turns.{Fits}

-- what lines say, the newest first
abbrev pub read_by : Source → Option Clocks → Query → List (List ℕ) → List Said
read_by s clocks q lines = said s clocks q.declared (reverse lines)

-- a run that ends well: it read all lines, and wrote what the source and the query mean for them
pub record Completes (known : Option (List ℕ)) (s : Source) (clocks : Option Clocks) (q : Query) (lines : List (List ℕ)) (old new : Option (List ℕ)) (totals : Totals) : Type 0 where
  pub all : AreAll s.longest known lines
  pub text : Appends old new (text q clocks (read_by s clocks q lines))
  pub numbers : line_of totals ≡ end_line q clocks (read_by s clocks q lines)

-- a run that ends between two turns: it wrote the turns of the first lines, each whole
pub record BreaksOff (known : Option (List ℕ)) (s : Source) (clocks : Option Clocks) (q : Query) (lines : List (List ℕ)) (old new : Option (List ℕ)) : Type 0 where
  pub first : AreFirst s.longest known lines
  pub text : Appends old new (turns_text q clocks (read_by s clocks q lines))

-- a run that ends within a turn: it wrote a beginning of the turns of the lines that it read
pub record BreaksWithin (known : Option (List ℕ)) (s : Source) (clocks : Option Clocks) (q : Query) (lines : List (List ℕ)) (old new : Option (List ℕ)) : Type 0 where
  pub first : AreFirst s.longest known lines
  pub part : TakesPart old new (turns_text q clocks (read_by s clocks q lines))

-- a run that ends behind its turns: it read all lines, and wrote a beginning of their text
pub record BreaksLast (known : Option (List ℕ)) (s : Source) (clocks : Option Clocks) (q : Query) (lines : List (List ℕ)) (old new : Option (List ℕ)) : Type 0 where
  pub all : AreAll s.longest known lines
  pub part : TakesPart old new (text q clocks (read_by s clocks q lines))

-- how a run ends early: want of memory and of lines comes between turns, a failed device anywhere
abbrev pub EndsEarly : Option (List ℕ) → Source → Option Clocks → Query → List (List ℕ) → Option (List ℕ) → Option (List ℕ) → LogEnd → Type 0
EndsEarly known s clocks q lines old new ends.Memory = BreaksOff known s clocks q lines old new
EndsEarly known s clocks q lines old new ends.ReadFailed = BreaksOff known s clocks q lines old new
EndsEarly known s clocks q lines old new ends.WriteFailed = BreaksWithin known s clocks q lines old new ⊎ BreaksLast known s clocks q lines old new

-- the turns of these lines were taken, and their bytes written
pub record Stands (s : Source) (clocks : Option Clocks) (p : Program) (lines : List (List ℕ)) (old now : Option (List ℕ)) (t : Intake) : Type 0 where
  pub fits : Fits s clocks p t (reverse lines)
  pub text : Appends old now (turns_text (query_of p) clocks (read_by s clocks (query_of p) lines))

-- all lines were read, and what the source and the query mean for them was written
abbrev pub LogWritten : Option (List ℕ) → Source → Option Clocks → Option (List ℕ) → Option (List ℕ) → Query → Totals → Type 0
LogWritten known s clocks old new q totals = (lines : List (List ℕ)) × Completes known s clocks q lines old new totals

-- all lines were read, and this is what is counted of them
abbrev pub LogCounted : Option (List ℕ) → Source → Option Clocks → Query → LogCounts → Type 0
LogCounted known s clocks q counts = (lines : List (List ℕ)) × AreAll s.longest known lines × (counts ≡ counts_of q clocks (read_by s clocks q lines))

-- a beginning of that was written
abbrev pub LogBroken : Option (List ℕ) → Source → Option Clocks → Option (List ℕ) → Option (List ℕ) → Query → LogEnd → Type 0
LogBroken known s clocks old new q end = (lines : List (List ℕ)) × EndsEarly known s clocks q lines old new end
