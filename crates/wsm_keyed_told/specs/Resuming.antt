-- Parts that go on from events which stand for all that came.
use Rattle.std.specs.Prelude.{◌≡◌, ◌≤◌, ℕ, ◌+◌, List, [], pos, unsigned_abs, IsTrue}
use Rattle.wsm_record.specs.declared.words.Form.TheVariants.{Panes}
use Rattle.wsm_record.specs.Event.{Event}
use Rattle.wsm_program.specs.Program.{Program, is_program}
use Rattle.wsm_head.specs.StandsFor.{program_with, taken}
use Rattle.wsm_part_programs.specs.Names.{of_names}
use Rattle.wsm_part_engines.specs.Fits.{AreNamed, Fits}
use Rattle.wsm_part_engines.specs.State.{State}
use Rattle.wsm_log_text.specs.Needed.{fed_all}
use Rattle.wsm_keyed_told.specs.declared.told.KeyedTold.{KeyedTold}
use Rattle.wsm_keyed_told.specs.Tells.{Serves}

-- parts before their first event, of a program with so many RECORDS that as many are left behind these events by names as are wanted
pub record IsLeft (p : Program) (left : ℕ) (events : List Event) (parts : State) : Type 0 where
  pub admitted : ℕ
  pub many : (all : List (List ℕ)) → AreNamed all (fed_all [] events) → admitted ≡ taken (of_names p all) (fed_all [] events)
  pub fewer : left + admitted ≤ unsigned_abs p.header.clock.records
  pub program : parts.program ≡ program_with (pos (left + admitted)) p
  pub lawful : IsTrue (is_program parts.program)
  pub panes : parts.program.header.form ≡ Panes
  pub fits : (all : List (List ℕ)) → Fits parts.program all parts []

-- a program was fed these events by names, the oldest first, with so many RECORDS that as many are left behind them as are wanted
pub record GoesOnFrom (p : Program) (left : ℕ) (known : List (List ℕ)) (events : List Event) (told : KeyedTold) : Type 0 where
  pub admitted : ℕ
  pub many : (all : List (List ℕ)) → AreNamed all (fed_all [] events) → admitted ≡ taken (of_names p all) (fed_all [] events)
  pub fewer : left + admitted ≤ unsigned_abs p.header.clock.records
  pub serves : Serves (program_with (pos (left + admitted)) p) told (fed_all [] events)
  pub names : told.names ≡ known
