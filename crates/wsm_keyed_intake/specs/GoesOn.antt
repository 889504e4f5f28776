-- A keyed intake whose parts need not have been fed all events of the lines so far: others stand for them, by a program with the RECORDS
-- that are left. What it writes is what one query over all names means for all lines.
use Rattle.std.specs.Prelude.{◌≡◌, ◌≤◌, ℕ, ℤ, List, ◌∷◌, ◌++◌, length, IsTrue, unsigned_abs}
use Rattle.wsm_program.specs.Program.{is_program}
use Rattle.wsm_machine.specs.Meaning.{plan_of}
use Rattle.wsm_turns.specs.Clocks.{named_in}
use Rattle.wsm_turns.specs.Named.{Knows}
use Rattle.wsm_turns.specs.Turns.{Kept}
use Rattle.wsm_head.specs.StandsFor.{program_with}
use Rattle.wsm_head.specs.Behind.{KeptFor}
use Rattle.wsm_part_programs.specs.Names.{of_names}
use Rattle.wsm_log_text.specs.FirstLine.{first_of}
use Rattle.wsm_log_text.specs.LogText as texts
use Rattle.wsm_keyed_intake.specs.declared.intake.KeyedIntake.{KeyedIntake}
use Rattle.wsm_keyed_intake.specs.KeyedLog.{KeyedLog, declared_by, kept_by, names_of, said_by, said_next, turn_text}
use Rattle.wsm_keyed_intake.specs.Turns.{Holds, Reads}

-- after lines, by these names and so many RECORDS
pub record GoesOnBy (g : KeyedLog) (records : ℤ) (all : List (List ℕ)) (t : KeyedIntake) (before : List (List ℕ)) : Type 0 where
  pub other : Kept
  pub holds : Holds g.clocks (program_with records g.program) all t other
  pub stands : KeptFor (plan_of g.program) (of_names g.program all) records (kept_by g all before) other
  pub few : length other.stamps ≤ length (said_by g all before)
  pub voices : Knows (named_in g.clocks) t.voices (texts.names_of g.source g.clocks (declared_by g all) before)
  pub taken : t.taken ≡ length (said_by g all before)

-- after lines, by the names so far and whichever come with later lines
pub record GoesOn (g : KeyedLog) (t : KeyedIntake) (before : List (List ℕ)) : Type 0 where
  pub records : ℤ
  pub lawful : IsTrue (is_program g.program)
  pub fewer : unsigned_abs records ≤ unsigned_abs g.program.header.clock.records
  pub whole : t.records ≡ g.program.header.clock.records
  pub first : t.first.items ≡ first_of before
  pub reads : Reads g t.reader t.told.names before
  pub by : (later : List (List ℕ)) → GoesOnBy g records (names_of g (later ++ before)) t before

-- one line more, with the bytes of its turn, by these names
pub record GoneOnBy (g : KeyedLog) (records : ℤ) (all : List (List ℕ)) (new : KeyedIntake) (before : List (List ℕ)) (line : List ℕ) : Type 0 where
  pub goes_on : GoesOnBy g records all new (line ∷ before)
  pub text : new.told.lines.items ≡ turn_text g.program all g.clocks (said_by g all before) (said_next g all before line)

-- the same by the names so far and whichever come with later lines
pub record GoneOn (g : KeyedLog) (new : KeyedIntake) (before : List (List ℕ)) (line : List ℕ) : Type 0 where
  pub goes_on : GoesOn g new (line ∷ before)
  pub text : (later : List (List ℕ)) → let all = names_of g (later ++ line ∷ before) in
      new.told.lines.items ≡ turn_text g.program all g.clocks (said_by g all before) (said_next g all before line)
