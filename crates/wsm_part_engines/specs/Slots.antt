-- What an event does to the engines of parts that are fed it.
use Rattle.std.specs.Prelude.{◌≡◌, ◌≢◌, ℕ, ◌+◌, ◌≤◌, ℤ, Bool, false, List, [], ◌∷◌, length, Option, Some, None, Ok, IsTrue}
use Rattle.std.specs.List.{range_with_len, sum_by}
use Rattle.wsm_record.specs.Event.{Event}
use Rattle.wsm_admission.specs.Clock.{fits_declared}
use Rattle.wsm_admission.specs.declared.verdict.Admitted.TheVariants as admitted
use Rattle.wsm_admission.specs.Admission as admission
use Rattle.wsm_admission.specs.Admission.{counter}
use Rattle.wsm_semantics.specs.declared.out_row.OutRow.{OutRow}
use Rattle.wsm_semantics.specs.Firings.{firings}
use Rattle.wsm_semantics.specs.Query.{effect_of}
use Rattle.wsm_semantics.specs.Relation.{turn_rows}
use Rattle.wsm_program.specs.Program.{Program, is_program}
use Rattle.wsm_bytecode.specs.Spelling.{spelling}
use Rattle.wsm_machine.specs.Meaning.{query_of}
use Rattle.wsm_engine.specs.State.{State as EngineState}
use Rattle.wsm_engine.specs.Meaning.{Fits as EngineFits, answer_by, selects_record}
use Rattle.wsm_key_parts.specs.OpenedLate.{openers}
use Rattle.wsm_part_engines.specs.Fits.{engine_at}

-- an engine, if there is one, runs the program
abbrev pub IsOf : Program → Option EngineState → Type 0
IsOf p None = Unit {0}
IsOf p (Some s) = s.program ≡ p

-- each does
abbrev pub AreOf : Program → List (Option EngineState) → Type 0
AreOf p engines = (part : ℕ) → IsOf p (engine_at engines part)

-- whether the values of an event fit what an engine's program declares is known, if there is one
abbrev pub IsJudged : Bool → Event → Option EngineState → Type 0
IsJudged fit e None = Unit {0}
IsJudged fit e (Some s) = fit ≡ fits_declared s.program.header.schema e

-- no rule of an engine refuses a record, if there is one
abbrev pub IsAdmitted : Event → Option EngineState → Type 0
IsAdmitted e None = Unit {0}
IsAdmitted e (Some s) = answer_by s e ≡ Ok admitted.Record

-- by what an engine decides, if there is one, and by what it does behind an event
abbrev pub admission_of : Option EngineState → Option admission.State
admission_of None = None
admission_of (Some s) = Some s.machine.admission

abbrev pub admission_on : Option EngineState → Event → Option admission.State
admission_on None e = None
admission_on (Some s) e = Some (admission.after (answer_by s e) e s.machine.admission)

-- the rows of an engine, if there is one
abbrev pub rows_of : Option EngineState → List OutRow
rows_of None = []
rows_of (Some s) = s.rows

-- an engine, if there is one, fits what it was fed, and without one that is nothing
abbrev pub Holds : Option EngineState → List Event → Type 0
Holds None fed = fed ≡ []
Holds (Some s) fed = EngineFits s fed

-- how many engines there are
abbrev pub one_if_some : Option EngineState → ℕ
one_if_some None = 0
one_if_some (Some s) = 1

abbrev pub open_count : List (Option EngineState) → ℕ
open_count [] = 0
open_count (slot ∷ slots) = one_if_some slot + open_count slots

-- what a part was fed behind an event
abbrev pub fed_with : Option EngineState → Event → List Event → List Event
fed_with None e fed = fed
fed_with (Some s) e fed = e ∷ fed

-- the rows that it writes then, and how many panes fire
abbrev pub rows_on : Option EngineState → List Event → Event → List OutRow
rows_on None fed e = []
rows_on (Some s) fed e = turn_rows (query_of s.program) fed e

abbrev pub fired_on : Option EngineState → List Event → Event → ℕ
fired_on None fed e = 0
fired_on (Some s) fed e = length (firings (query_of s.program) fed e)

-- and whether it selects a record
abbrev pub selected_on : Option EngineState → List Event → Event → Bool
selected_on None fed e = false
selected_on (Some s) fed e = selects_record (effect_of (query_of s.program) fed e)

-- an engine, if there is one, takes an event, and so many panes fire
pub record Feeds (old new : Option EngineState) (e : Event) (panes : ℕ) : Type 0 where
  pub of : (p : Program) → IsOf p old → IsOf p new
  pub none : old ≡ None → new ≡ None
  pub fits : (fed : List Event) → Holds old fed → Holds new (fed_with old e fed)
  pub admission : admission_of new ≡ admission_on old e
  pub rows : (fed : List Event) → Holds old fed → rows_of new ≡ rows_on old fed e
  pub fired : (fed : List Event) → Holds old fed → panes ≡ fired_on old fed e

-- the engine of one part does
pub record FeedsOne (part : ℕ) (olds news : List (Option EngineState)) (e : Event) (panes : ℕ) : Type 0 where
  pub one : Feeds (engine_at olds part) (engine_at news part) e panes
  pub others : (other : ℕ) → other ≢ part → engine_at news other ≡ engine_at olds other

-- each does
pub record FeedsAll (olds news : List (Option EngineState)) (e : Event) (panes : ℕ) : Type 0 where
  pub each : (part : ℕ) → (some : ℕ) × Feeds (engine_at olds part) (engine_at news part) e some
  pub fired : (fed : ℕ → List Event) → ((part : ℕ) → Holds (engine_at olds part) (fed part)) →
      panes ≡ counter (sum_by (λ part. fired_on (engine_at olds part) (fed part) e) (range_with_len 0 (length olds)))

-- an engine of the program that bytes spell was fed watermarks that bring its sources to their marks
pub record IsAt (bytes : List ℕ) (marks : List ℤ) (s : EngineState) : Type 0 where
  pub program : (p : Program) → IsTrue (is_program p) → bytes ≡ spelling p → s.program ≡ p
  pub fits : EngineFits s (openers s.program.header.clock.start 0 marks)

-- an engine is there in place of none
pub record Puts (part : ℕ) (engine : EngineState) (olds news : List (Option EngineState)) : Type 0 where
  pub one : engine_at news part ≡ Some engine
  pub others : (other : ℕ) → other ≢ part → engine_at news other ≡ engine_at olds other

-- a part without an engine has one of the program that bytes spell, which was brought to the marks of the sources; another keeps its own
pub record Opens (bytes : List ℕ) (marks : List ℤ) (part : ℕ) (olds news : List (Option EngineState)) : Type 0 where
  pub kept : (s : EngineState) → engine_at olds part ≡ Some s → engine_at news part ≡ Some s
  pub opened : engine_at olds part ≡ None → (s : EngineState) × (engine_at news part ≡ Some s) × IsAt bytes marks s
  pub others : (other : ℕ) → other ≢ part → engine_at news other ≡ engine_at olds other
