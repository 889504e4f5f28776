-- Entries in slots.
use Rattle.std.specs.Prelude.{◌≢◌, ℕ, List, Option, Some, None, if◌then◌else◌, slice_index_or}
use Rattle.std.specs.Ordering.{eq_by_cmp}
use Rattle.wsm_windows.specs.declared.place.Place.{Place}
use Rattle.wsm_windows.specs.Places.{place_cmp}

-- no slot has an entry
abbrev pub AreFree : {X : Type 0} → List (Option X) → Type 0
AreFree os = (i : ℕ) (x : _) → slice_index_or os i None ≢ Some x

-- what a slot has
abbrev pub slot_at : {X : Type 0} → List (Option X) → ℕ → Option X
slot_at os i = slice_index_or os i None

-- the pane at a place, of what is in its slot
abbrev pub pane_of : {P : Type 0} → Place → Option (Place × P) → Option P
pane_of q None = None
pane_of q (Some e) = if eq_by_cmp place_cmp q e.0 then Some e.1 else None
