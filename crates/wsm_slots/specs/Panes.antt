-- A pane: what a record and a firing do to it, and when it can take one.
use Rattle.std.specs.Prelude.{◌≡◌, ℕ, ◌+◌, ◌^◌, ◌<◌, Bool, true, IsTrue, List, [], map as map_list, filter, nat_eq, false, ℤ, pos, Option, Some, None, IfSome, option_map}
use Rattle.std.specs.FinMap as map
use Rattle.wsm_record.specs.declared.event.Value.{Value}
use Rattle.wsm_record.specs.declared.cell.Cell.{Cell}
use Rattle.wsm_record.specs.declared.words.Kind.{Kind}
use Rattle.wsm_record.specs.declared.words.Mode.{Mode}
use Rattle.wsm_windows.specs.declared.window.Window.{Window}
use Rattle.wsm_windows.specs.declared.place.Place.{Place}
use Rattle.wsm_windows.specs.Places.{place_cmp, window_of}
use Rattle.wsm_fold.specs.Fold.{are_of_kinds, joins}
use Rattle.wsm_fold.specs.Accumulators.{SumsFit}
use Rattle.wsm_semantics.specs.declared.standing.Standing.{Standing}
use Rattle.wsm_semantics.specs.declared.standing.Standing.TheVariants.{Row, Unfired}
use Rattle.wsm_semantics.specs.Query.{Datum}
use Rattle.wsm_semantics.specs.Replay.{datum}
use Rattle.wsm_semantics.specs.Summaries.{Plan, Pane, kept_window, left_folded, with_record}

-- how entering takes the values that a record is folded by: a plan whose WHERE and FIRE say nothing
abbrev pub taking : List Kind → List Value → Plan (List Value)
taking kinds values = record { selects = λ _ _. true; first = λ _ _. values; more = λ held _ _. joins kinds held values; join = joins kinds; row = λ _ _ _. None }

-- a pane, if there is one, with one record more
abbrev pub with_one_more : List Kind → List Value → Option (Pane (List Value)) → Pane (List Value)
with_one_more kinds values pane = with_record (taking kinds values) (datum 0 (pos 0) 0 (pos 0) []) pane

-- a pane that fired: it has shown all of its records, and the row of the firing stands, with its window
-- where panes retract
abbrev pub once_fired : Mode → Place → Option (List Cell) → Pane (List Value) → Pane (List Value)
once_fired mode place row h = record h { unshown = 0; folded = left_folded mode h.folded; stands = Row (kept_window mode (window_of place)) row }

abbrev pub Panes : Type 0
Panes = List (Place × Pane (List Value))

abbrev pub PaneMap : Type 0
PaneMap = map.FinMap place_cmp (Pane (List Value))

-- the pane at a place fired, where there is one
abbrev pub FiresAt : Mode → Place → Option (List Cell) → PaneMap → PaneMap → Type 0
FiresAt mode place row old new =
    (pane : Pane (List Value)) × (map.get old place ≡ Some pane) × (new ≡ map.insert old place (once_fired mode place row pane))

-- an entry, if there is one, with one record more
abbrev pub entry_recorded : List Kind → List Value → Option (Place × Pane (List Value)) → Option (Place × Pane (List Value))
entry_recorded kinds values entry = option_map (λ e. (e.0, with_one_more kinds values (Some e.1))) entry

-- an entry, if there is one, whose pane fired
abbrev pub entry_fired : Mode → Option (List Cell) → Option (Place × Pane (List Value)) → Option (Place × Pane (List Value))
entry_fired mode row entry = option_map (λ e. (e.0, once_fired mode e.0 row e.1)) entry

-- a record of a key and a time, as far as its windows go
abbrev pub record_of : ℕ → ℤ → Datum
record_of key time = datum 0 (pos 0) key time []

-- a pane fired, or a part of it did before it was joined
abbrev pub has_fired : Standing → Bool
has_fired Unfired = false
has_fired _ = true

-- the windows of a key's panes, in the order of the places
abbrev pub windows_of_key : {X : Type 0} → ℕ → List (Place × X) → List Window
windows_of_key key panes = map_list (λ e. window_of e.0) (filter (λ e. nat_eq key e.0.key) panes)

-- what a pane holds can take a row of values
pub record CanTake (kinds : List Kind) (values held : List Value) : Type 0 where
  pub types : IsTrue (are_of_kinds kinds held)
  pub sums : SumsFit kinds held values

-- what two panes hold can be joined
abbrev pub CanJoinFolds : List Kind → Option (List Value) → Option (List Value) → Type 0
CanJoinFolds kinds (Some xs) (Some ys) = IsTrue (are_of_kinds kinds xs) × IsTrue (are_of_kinds kinds ys) × SumsFit kinds xs ys
CanJoinFolds kinds _ _ = Unit {0}

-- a pane can take one record more
pub record CanRecord (kinds : List Kind) (values : List Value) (h : Pane (List Value)) : Type 0 where
  pub count : h.count < 2 ^ 63
  pub unshown : h.unshown < 2 ^ 63
  pub takes : IfSome h.folded (CanTake kinds values)

-- two panes can be joined
pub record CanJoin (kinds : List Kind) (h g : Pane (List Value)) : Type 0 where
  pub count : h.count + g.count < 2 ^ 63
  pub unshown : h.unshown + g.unshown < 2 ^ 63
  pub folds : CanJoinFolds kinds h.folded g.folded
