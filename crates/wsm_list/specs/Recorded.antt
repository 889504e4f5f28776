-- Panes of a list with a record in one of them.
use Rattle.std.specs.Prelude.{◌≡◌, ◌≤◌, List, length, Bool, None, not, IfSome, IsSome, IsTrue}
use Rattle.std.specs.Ordering.{eq_by_cmp}
use Rattle.std.specs.FinMap as map
use Rattle.wsm_record.specs.declared.event.Value.{Value}
use Rattle.wsm_record.specs.declared.words.Kind.{Kind}
use Rattle.wsm_record.specs.declared.limits.TheConstants.{MAX_ACCUMULATORS}
use Rattle.wsm_windows.specs.declared.place.Place.{Place}
use Rattle.wsm_windows.specs.Places.{place_cmp}
use Rattle.wsm_fold.specs.Fold.{are_of_kinds}
use Rattle.wsm_semantics.specs.Summaries.{Pane}
use Rattle.wsm_slots.specs.Panes.{CanRecord, with_one_more}
use Rattle.wsm_list.specs.Table.{Table}

abbrev pub is_other : Place → Place → Bool
is_other place other = not (eq_by_cmp place_cmp place other)

-- how wide panes are and for how many there is room stays
pub record IsAsRoomy {P : Type 0} (old new : Table P) : Type 0 where
  pub room : new.room ≡ old.room
  pub widths : new.widths ≡ old.widths

-- a record can be folded by these values into the panes of a list
pub record CanFold (kinds : List Kind) (values : List Value) (table : Table (Pane (List Value))) : Type 0 where
  pub few : length values ≤ MAX_ACCUMULATORS
  pub wide : length values ≡ table.widths.accumulators
  pub types : IsTrue (are_of_kinds kinds values)

-- a record can be put into the pane at a place, which goes to another then
pub record CanMove (kinds : List Kind) (values : List Value) (from to : Place) (table : Table (Pane (List Value))) : Type 0 where
  pub wide : length values ≡ table.widths.accumulators
  pub types : IsTrue (are_of_kinds kinds values)
  pub there : IsSome (map.get table.panes from)
  pub takes : IfSome (map.get table.panes from) (CanRecord kinds values)
  pub absent : map.get (map.remove table.panes from) to ≡ None

-- it was
pub record HasMoved (kinds : List Kind) (values : List Value) (from to : Place) (old new : Table (Pane (List Value))) : Type 0 where
  pub panes : new.panes ≡ map.insert (map.remove old.panes from) to (with_one_more kinds values (map.get old.panes from))
  pub keeps : IsAsRoomy old new
