-- What engines come to as an event is taken, by what their parts were fed.
use Rattle.std.specs.Prelude.{◌≡◌, ◌≢◌, ℕ, ℤ, Bool, List, ◌∷◌, length, Option, Some}
use Rattle.wsm_record.specs.Event.{Event}
use Rattle.wsm_semantics.specs.Firings.{firings}
use Rattle.wsm_semantics.specs.Query.{effect_of}
use Rattle.wsm_semantics.specs.Relation.{turn_rows}
use Rattle.wsm_program.specs.Program.{Program}
use Rattle.wsm_machine.specs.Meaning.{query_of}
use Rattle.wsm_engine.specs.State.{State as EngineState}
use Rattle.wsm_engine.specs.Meaning.{selects_record}
use Rattle.wsm_key_parts.specs.Parts.{fed_before}
use Rattle.wsm_part_engines.specs.declared.engines.Engines.{Engines}
use Rattle.wsm_part_engines.specs.Fits.{engine_at, IsFed}
use Rattle.wsm_part_engines.specs.Slots.{FeedsAll, rows_of}
use Rattle.wsm_part_engines.specs.Ordered.{all_places, arranged, places_from}

-- an engine took an event behind others, and so many panes fired
pub record Took (p : Program) (before : List Event) (e : Event) (slot : Option EngineState) (panes : ℕ) : Type 0 where
  pub fits : IsFed slot (e ∷ before)
  pub rows : rows_of slot ≡ turn_rows (query_of p) before e
  pub fired : panes ≡ length (firings (query_of p) before e)

-- the engine of a part took a record, which opened it if it was the first; its rows alone are told
pub record TakesRecord (p : Program) (marks : List ℤ) (part : ℕ) (e : Event) (old new : Engines) (fired : ℕ) : Type 0 where
  pub one : (fed before : List Event) → IsFed (engine_at old.slots.items part) fed → fed_before p.header.clock.start marks e fed ≡ Some before →
      Took p before e (engine_at new.slots.items part) fired
  pub others : (other : ℕ) → other ≢ part → engine_at new.slots.items other ≡ engine_at old.slots.items other
  pub rows : new.order.items ≡ places_from part 0 (rows_of (engine_at new.slots.items part))

-- and it is known whether it was selected
abbrev pub SelectsRecord : Program → List ℤ → ℕ → Event → Engines → Bool → Type 0
SelectsRecord p marks part e old selected = (fed before : List Event) → IsFed (engine_at old.slots.items part) fed → fed_before p.header.clock.start marks e fed ≡ Some before →
    selected ≡ selects_record (effect_of (query_of p) before e)

-- each engine took a watermark; the rows of all are told, in order
pub record TakesWatermark (e : Event) (old new : Engines) (fired : ℕ) : Type 0 where
  pub all : FeedsAll old.slots.items new.slots.items e fired
  pub rows : new.order.items ≡ arranged (all_places 0 new.slots.items)
