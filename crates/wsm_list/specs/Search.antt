-- Where a search for a place ends.
use Rattle.std.specs.Prelude.{ℕ, suc, List, [], ◌∷◌, if◌then◌else◌, ◌≡◌, ℤ, ◌<◌, ◌≤◌, length, Option, None, Some, slice_get, slice_index_or, slice_set, insert}
use Rattle.std.specs.declared.cmp.Ordering.{Ordering}
use Rattle.std.specs.Ordering.{is_gt}
use Rattle.std.specs.FinMap.{find, put}
use Rattle.wsm_windows.specs.declared.place.Place.{Place}
use Rattle.wsm_windows.specs.Places.{place_cmp}
use Rattle.wsm_list.specs.Stored.{listed, shown}

-- how many entries a scan for a key passes, in an order
abbrev pub before : {K X : Type 0} → (K → K → Ordering) → K → List (K × X) → ℕ
before R k [] = 0
before R k (e ∷ es) = if is_gt (R k e.0) then suc (before R k es) else 0

-- the entry at i is at the place: a look-up finds its pane, and setting the place writes over it
pub record IsAt {P : Type 0} (es : List (Place × P)) (place : Place) (i : ℕ) : Type 0 where
  pub within : i < length es
  pub stops : i ≡ before place_cmp place es
  pub same : (default : Place × P) → (slice_index_or es i default).0 ≡ place
  pub finds : (default : Place × P) → find place_cmp place es ≡ Some (slice_index_or es i default).1
  pub puts : (pane : P) → put place_cmp place pane es ≡ slice_set es i (place, pane)

-- no entry is at the place, and one would go in front of i
pub record IsGapFor {P : Type 0} (es : List (Place × P)) (place : Place) (i : ℕ) : Type 0 where
  pub within : i ≤ length es
  pub stops : i ≡ before place_cmp place es
  pub absent : find place_cmp place es ≡ None
  pub puts : (pane : P) → put place_cmp place pane es ≡ insert es i (place, pane)

-- the slot of the entry at the place, which is in the row once
pub record IsSlotOf {P : Type 0} (slots : List (Option (Place × P))) (row : List ℕ) (place : Place) (slot : ℕ) : Type 0 where
  pub number : ℕ
  pub here : slice_get row number ≡ Some slot
  pub once : listed slot row ≡ 1
  pub is : IsAt (shown slots row) place number

-- so many entries stand before each place whose window ends at a time
pub record AreBeforeAllOf {P : Type 0} (end : ℤ) (count : ℕ) (es : List (Place × P)) : Type 0 where
  pub counts : (place : Place) → place.end ≡ end → count ≤ before place_cmp place es
