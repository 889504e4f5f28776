-- How many records the panes that are held have: each of them, or in sessions all of them together,
-- as a record stands in one session alone.
use Rattle.std.specs.Prelude.{ℕ, ◌+◌, ◌≤◌, List, [], ◌∷◌, Option, Some, None}
use Rattle.std.specs.List.{AllByRecursion}
use Rattle.wsm_windows.specs.declared.window.Shape.{Shape}
use Rattle.wsm_windows.specs.declared.window.Shape.TheVariants.{Fixed, Sliding, Session}
use Rattle.wsm_windows.specs.declared.place.Place.{Place}
use Rattle.wsm_semantics.specs.Summaries.{Pane}

abbrev pub count_of : {X : Type 0} → Option (Pane X) → ℕ
count_of None = 0
count_of (Some h) = h.count

abbrev pub total : {X : Type 0} → List (Place × Pane X) → ℕ
total [] = 0
total (e ∷ es) = e.1.count + total es

-- each pane has at most so many records
abbrev pub EachAtMost : {X : Type 0} → ℕ → List (Place × Pane X) → Type 0
EachAtMost n panes = AllByRecursion (λ e. e.1.count ≤ n) panes

-- panes that so many selected records can make
abbrev pub AtMost : {X : Type 0} → Shape → ℕ → List (Place × Pane X) → Type 0
AtMost (Fixed size) n panes = EachAtMost n panes
AtMost (Sliding size period) n panes = EachAtMost n panes
AtMost (Session gap) n panes = total panes ≤ n
