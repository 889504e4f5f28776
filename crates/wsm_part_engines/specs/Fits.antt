-- How a front and its engines fit a history, whose events have keys by their numbers among any names.
use Rattle.std.specs.Prelude.{◌≡◌, ℕ, ◌+◌, ◌*◌, ◌<◌, Bool, true, List, [], ◌∷◌, length, map, nat_lt, Option, Some, None, Ok, slice_index_or}
use Rattle.std.specs.List.{AllByRecursion}
use Rattle.wsm_record.specs.Event.{Event, Record, Watermark}
use Rattle.wsm_admission.specs.Admission.{counter}
use Rattle.wsm_semantics.specs.ByNumber.{Numbers, event_by}
use Rattle.wsm_program.specs.Program.{Program}
use Rattle.wsm_engine.specs.State.{State as EngineState}
use Rattle.wsm_engine.specs.Meaning.{Fits as EngineFits}
use Rattle.wsm_key_parts.specs.Parts.{Parts, after_rows}
use Rattle.wsm_part_programs.specs.Names.{of_names}
use Rattle.wsm_part_engines.specs.State.{State}

-- ---- keys by number

-- the number of a place in a part
abbrev pub number_of : ℕ → ℕ → Numbers
number_of block part place = part * block + place

abbrev pub by_number : ℕ → ℕ → Event → Event
by_number block part e = event_by (number_of block part) e

-- the key of a record, if it has one, is a place of a part
abbrev pub IsPlaced : ℕ → Event → Type 0
IsPlaced block (Record None time values) = Unit {0}
IsPlaced block (Record (Some place) time values) = place < block
IsPlaced block (Watermark source time) = Unit {0}

-- the number of the key of a record, if it has one, is that of a name
abbrev pub is_named : List (List ℕ) → Event → Bool
is_named names (Record None time values) = true
is_named names (Record (Some n) time values) = nat_lt n (length names)
is_named names (Watermark source time) = true

abbrev pub AreNamed : List (List ℕ) → List Event → Type 0
AreNamed names past = AllByRecursion (λ e. is_named names e ≡ true) past

-- ---- what is kept

-- what a front and parts of the program keep by the definition, over these names
abbrev pub parts_after : Program → List (List ℕ) → List Event → Parts
parts_after p names past = after_rows p.header.schema.keys p.header.clock.records (of_names p names) (map Ok past)

-- the engine of a part, if it is opened
abbrev pub engine_at : List (Option EngineState) → ℕ → Option EngineState
engine_at engines part = slice_index_or engines part None

-- an engine fits what its part was fed, and is opened by the first of it
abbrev pub IsFed : Option EngineState → List Event → Type 0
IsFed None fed = fed ≡ []
IsFed (Some s) fed = EngineFits s fed × (e : Event) × (before : List Event) × (fed ≡ e ∷ before)

-- what is kept is that of a history over these names
pub record FitsBy (names : List (List ℕ)) (s : State) (past : List Event) : Type 0 where
  pub front : s.front ≡ (parts_after s.program names past).front
  pub engines : (part : ℕ) → IsFed (engine_at s.engines part) ((parts_after s.program names past).fed part)
  pub fed : s.fed ≡ counter (length past)
  pub fired : s.fired ≡ counter (parts_after s.program names past).fired

-- what is kept of a program is that of a history all of whose keys have names. It is the same over any names that are long enough
pub record Fits (p : Program) (names : List (List ℕ)) (s : State) (past : List Event) : Type 0 where
  pub program : s.program ≡ p
  pub named : AreNamed names past
  pub kept : (all : List (List ℕ)) → AreNamed all past → FitsBy all s past
