-- What fires on the turn of a watermark.
use Rattle.std.specs.Prelude.{◌≡◌, ℕ, ◌+◌, ◌≤◌, ◌<◌, ℤ, ◌<ℤ◌, ◌≤ℤ◌, List, Option, Some, slice_get}
use Rattle.std.specs.List.{AllByRecursion}
use Rattle.wsm_record.specs.declared.cell.Cell.{Cell}
use Rattle.wsm_record.specs.declared.event.Value.{Value}
use Rattle.wsm_windows.specs.Windows.{IsPlaced}
use Rattle.wsm_windows.specs.declared.place.Place.{Place}
use Rattle.wsm_windows.specs.Places.{window_of}
use Rattle.wsm_semantics.specs.Summaries.{Pane, Fired, fires, kind_by_watermark, withdrawn_by_watermark}
use Rattle.wsm_program.specs.Program.{Program}
use Rattle.wsm_machine.specs.Meaning.{query_of}
use Rattle.wsm_slots.specs.Walk.{place_due}
use Rattle.wsm_firing.specs.Firing.{CanFire}

-- what fires on the turn of a watermark that rises from one mark to another
abbrev pub fires_by_watermark : Program → ℤ → ℤ → List (Place × Pane (List Value)) → List (Fired (List Value))
fires_by_watermark p old new panes = fires (query_of p) (kind_by_watermark (query_of p) old new) panes

-- what those that fire then withdraw
abbrev pub withdrawn_of_watermark : Program → ℤ → ℤ → List (Place × Pane (List Value)) → List (Place × List Cell)
withdrawn_of_watermark p old new panes = withdrawn_by_watermark (query_of p) old new panes

-- times can stand in the panes' windows, and what fires can
pub record CanFireByWatermark (p : Program) (capacity : ℕ) (old new : ℤ) (panes : List (Place × Pane (List Value))) : Type 0 where
  pub placed : AllByRecursion (λ e. IsPlaced (window_of e.0)) panes
  pub can : CanFire p capacity 0 (fires_by_watermark p old new panes)

-- the place of the first pane from a number on that can fire, if it ends by the new mark: those before
-- it don't expire yet, and came on time by the old mark
pub record IsNextToFire (expired old new : ℤ) (panes : List (Place × Pane (List Value))) (from : ℕ) (found : Option Place) : Type 0 where
  pub at : ℕ
  pub onward : from ≤ at
  pub fired : (k : ℕ) (e : Place × Pane (List Value)) → from ≤ k → k < at → slice_get panes k ≡ Some e → (expired <ℤ e.0.end) × (e.0.end ≤ℤ old)
  pub next : found ≡ place_due new (slice_get panes at)

-- the same behind the pane at a place
abbrev pub IsNextBehind : ℤ → ℤ → ℤ → List (Place × Pane (List Value)) → Place → Option Place → Type 0
IsNextBehind expired old new panes place found = (i : ℕ) (pane : Pane (List Value)) → slice_get panes i ≡ Some (place, pane) →
    IsNextToFire expired old new panes (i + 1) found
