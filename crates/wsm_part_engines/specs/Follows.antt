-- That engines go by the marks of their front: what it admits, they admit.
use Rattle.std.specs.Prelude.{◌≡◌, ◌≤◌, ℕ, ℤ, List, Option, Some, None, Ok, IsTrue}
use Rattle.wsm_record.specs.Event.{Event}
use Rattle.wsm_admission.specs.declared.verdict.Admitted.TheVariants as admitted
use Rattle.wsm_admission.specs.Admission.{State, Fits, after, decision}
use Rattle.wsm_program.specs.Program.{Program, is_program}
use Rattle.wsm_engine.specs.State.{State as EngineState}
use Rattle.wsm_part_engines.specs.declared.engines.Engines.{Engines}
use Rattle.wsm_part_engines.specs.Fits.{engine_at}
use Rattle.wsm_part_engines.specs.Slots.{admission_of}
use Rattle.wsm_part_engines.specs.Ready.{IsReady}

-- what decides by the clock and the marks of the front, and admitted no more records
pub record GoesBy (front s : State) : Type 0 where
  pub clock : s.clock ≡ front.clock
  pub marks : s.marks ≡ front.marks
  pub few : s.admitted ≤ front.admitted

abbrev pub Follows : State → Option State → Type 0
Follows front None = Unit {0}
Follows front (Some s) = GoesBy front s

-- each engine goes by the front
abbrev pub AllFollow : State → List (Option EngineState) → Type 0
AllFollow front engines = (part : ℕ) → Follows front (admission_of (engine_at engines part))

-- a front decides by what the program declares, of some history, and has these marks
pub record IsFront (p : Program) (known : List ℤ) (front : State) : Type 0 where
  pub clock : front.clock ≡ p.header.clock
  pub marks : known ≡ front.marks
  pub history : (past : List Event) × Fits p.header.shape p.header.schema front past

-- engines are those of a program behind a front, which admits a record
pub record MayTakeRecord (marks : List ℤ) (e : Event) (engines : Engines) : Type 0 where
  pub program : Program
  pub lawful : IsTrue (is_program program)
  pub ready : IsReady program engines
  pub front : State
  pub is_front : IsFront program marks front
  pub follow : AllFollow front engines.slots.items
  pub taken : decision program.header.shape program.header.schema front e ≡ Ok admitted.Record

-- they go by the front as before, once it counted the record
abbrev pub FollowRecord : List ℤ → Event → Engines → Engines → Type 0
FollowRecord marks e old new = (p : Program) → IsTrue (is_program p) → IsReady p old → (front : State) → IsFront p marks front → AllFollow front old.slots.items →
    decision p.header.shape p.header.schema front e ≡ Ok admitted.Record → AllFollow (after (Ok admitted.Record) e front) new.slots.items

-- and once it has the mark of a watermark
abbrev pub FollowWatermark : Event → Engines → Engines → Type 0
FollowWatermark e old new = (p : Program) → IsReady p old → (front : State) → AllFollow front old.slots.items →
    (from to : ℤ) → decision p.header.shape p.header.schema front e ≡ Ok (admitted.Watermark from to) → AllFollow (after (Ok (admitted.Watermark from to)) e front) new.slots.items
