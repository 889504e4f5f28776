-- An intake whose engine need not have been fed all events of the lines so far: others stand for them, by a program with the RECORDS that
-- are left. What it writes is what the query means for all lines.
use Rattle.std.specs.Prelude.{◌≡◌, ◌≤◌, ℕ, ℤ, List, ◌∷◌, Option, IsTrue, unsigned_abs}
use Rattle.wsm_program.specs.Program.{Program, is_program}
use Rattle.wsm_machine.specs.Meaning.{plan_of, query_of}
use Rattle.wsm_lines.specs.declared.source.Source.{Source}
use Rattle.wsm_turns.specs.declared.clocks.Clocks.{Clocks}
use Rattle.wsm_turns.specs.Turns.{Kept, kept}
use Rattle.wsm_head.specs.StandsFor.{program_with}
use Rattle.wsm_head.specs.Behind.{KeptFor}
use Rattle.wsm_intake.specs.declared.intake.Intake.{Intake}
use Rattle.wsm_log_text.specs.LogText.{said, said_at, turn_text}
use Rattle.wsm_intake.specs.Turns.{FitsBehind, setting_by}

-- what is kept of lines by a program
abbrev pub kept_of : Source → Option Clocks → Program → List (List ℕ) → Kept
kept_of s clocks p before = kept (setting_by clocks p) (said s clocks p.header.schema before)

-- after lines, by a source, clocks and a program
pub record GoesOn (s : Source) (clocks : Option Clocks) (p : Program) (t : Intake) (before : List (List ℕ)) : Type 0 where
  pub records : ℤ
  pub other : Kept
  pub lawful : IsTrue (is_program p)
  pub fewer : unsigned_abs records ≤ unsigned_abs p.header.clock.records
  pub fits : FitsBehind s clocks (program_with records p) p.header.clock.records t other before
  pub stands : KeptFor (plan_of p) (query_of p) records (kept_of s clocks p before) other

-- one line more, with the bytes of its turn
pub record GoneOn (s : Source) (clocks : Option Clocks) (p : Program) (new : Intake) (before : List (List ℕ)) (line : List ℕ) : Type 0 where
  pub goes_on : GoesOn s clocks p new (line ∷ before)
  pub text : new.told.lines.items ≡ turn_text (query_of p) clocks (said s clocks p.header.schema before) (said_at s clocks p.header.schema before line)
