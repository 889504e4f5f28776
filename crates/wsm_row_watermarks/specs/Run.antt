-- What is written for the lines that are read, and how that ends. Lines are the oldest first here.
use Rattle.std.specs.Prelude.{◌≡◌, ◌⊎◌, ℕ, Bool, List, Option, reverse}
use Rattle.std.specs.Io.KnownBytes.{Appends}
use Rattle.wsm_csv.specs.Device.{TakesPart}
use Rattle.wsm_log.specs.LinesOf.{AreAll, AreFirst}
use Rattle.wsm_log_rows.specs.declared.end.LogEnd.{LogEnd}
use Rattle.wsm_log_rows.specs.declared.end.LogEnd.TheVariants as ends
use Rattle.wsm_turns.specs.Turns.{Setting}
use Rattle.wsm_row_watermarks.specs.declared.counts.Totals.{Totals}
use Rattle.wsm_row_watermarks.specs.declared.text.TheConstants.{LONGEST}
use Rattle.wsm_row_watermarks.specs.declared.turns.RowTurns.{RowTurns}
use Rattle.wsm_row_watermarks.specs.declared.write.Rules.{Rules}
use Rattle.wsm_row_watermarks.specs.Fits.{Fits, read_by}
use Rattle.wsm_row_watermarks.specs.Lines.{Line}
use Rattle.wsm_row_watermarks.specs.Turns.{rows_text, text, totals_of}

abbrev pub setting_by : Rules → Setting
setting_by r = record { clocks = r.clocks; declared = r.schema; clock = r.times.clock; shape = r.times.shape }

-- the lines, the newest first
abbrev pub read : Setting → Option ℕ → List (List ℕ) → List Line
read w once lines = read_by w once (reverse lines)

-- all lines were read, and what they come to was written
pub record Completes (known : Option (List ℕ)) (w : Setting) (once : Option ℕ) (last : Bool) (lines : List (List ℕ)) (old new : Option (List ℕ)) (told : Totals) : Type 0 where
  pub all : AreAll LONGEST known lines
  pub text : Appends old new (text w last (read w once lines))
  pub totals : told ≡ totals_of w (read w once lines)

-- it ended between two lines: the rows of the first lines were written, those of each whole
pub record BreaksOff (known : Option (List ℕ)) (w : Setting) (once : Option ℕ) (lines : List (List ℕ)) (old new : Option (List ℕ)) : Type 0 where
  pub first : AreFirst LONGEST known lines
  pub text : Appends old new (rows_text w (read w once lines))

-- it ended within the rows of a line: a beginning was written of those of the lines that were read
pub record BreaksWithin (known : Option (List ℕ)) (w : Setting) (once : Option ℕ) (lines : List (List ℕ)) (old new : Option (List ℕ)) : Type 0 where
  pub first : AreFirst LONGEST known lines
  pub part : TakesPart old new (rows_text w (read w once lines))

-- it ended behind all lines: a beginning of what they come to was written
pub record BreaksLast (known : Option (List ℕ)) (w : Setting) (once : Option ℕ) (last : Bool) (lines : List (List ℕ)) (old new : Option (List ℕ)) : Type 0 where
  pub all : AreAll LONGEST known lines
  pub part : TakesPart old new (text w last (read w once lines))

-- how it ends early: want of memory and of lines comes between two lines, a failed device anywhere
abbrev pub EndsEarly : Option (List ℕ) → Setting → Option ℕ → Bool → List (List ℕ) → Option (List ℕ) → Option (List ℕ) → LogEnd → Type 0
EndsEarly known w once last lines old new ends.Memory = BreaksOff known w once lines old new
EndsEarly known w once last lines old new ends.ReadFailed = BreaksOff known w once lines old new
EndsEarly known w once last lines old new ends.WriteFailed = BreaksWithin known w once lines old new ⊎ BreaksLast known w once last lines old new

-- the turns of these lines were taken, and their rows written
pub record Stands (w : Setting) (once : Option ℕ) (lines : List (List ℕ)) (old now : Option (List ℕ)) (t : RowTurns) : Type 0 where
  pub fits : Fits w once t (reverse lines)
  pub text : Appends old now (rows_text w (read w once lines))

abbrev pub IsWritten : Option (List ℕ) → Setting → Option ℕ → Bool → Option (List ℕ) → Option (List ℕ) → Totals → Type 0
IsWritten known w once last old new totals = (lines : List (List ℕ)) × Completes known w once last lines old new totals

abbrev pub IsBroken : Option (List ℕ) → Setting → Option ℕ → Bool → Option (List ℕ) → Option (List ℕ) → LogEnd → Type 0
IsBroken known w once last old new end = (lines : List (List ℕ)) × EndsEarly known w once last lines old new end
