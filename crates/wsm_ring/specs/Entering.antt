-- What a record does to the panes of a ring.
use Rattle.std.specs.Prelude.{◌≡◌, ◌≤ℤ◌, ℕ, List, [], filter, length, ℤ, pos, int_lt, IfSome, IsTrue}
use Rattle.std.specs.List.{AllByRecursion}
use Rattle.std.specs.FinMap as map
use Rattle.std.specs.FinMap.Entries.{find}
use Rattle.wsm_record.specs.declared.event.Value.{Value}
use Rattle.wsm_record.specs.declared.words.Kind.{Kind}
use Rattle.wsm_windows.specs.declared.window.Window.{Window}
use Rattle.wsm_windows.specs.Windows.{IsTime, greatest_span, windows_of}
use Rattle.wsm_windows.specs.declared.place.Place.{Place}
use Rattle.wsm_windows.specs.Places.{place_cmp, at}
use Rattle.wsm_fold.specs.Fold.{are_of_kinds}
use Rattle.wsm_semantics.specs.Replay.{datum}
use Rattle.wsm_semantics.specs.Summaries.{Pane, assigned}
use Rattle.wsm_ring.specs.declared.ring.Ring.{Ring}
use Rattle.wsm_ring.specs.Ring.{LieInRing}
use Rattle.wsm_ring.specs.RingState.{IsAsLarge, RingState}
use Rattle.wsm_slots.specs.Panes.{record_of, taking, Panes, CanRecord}

-- the windows of a ring that have a time inside and end past another
abbrev pub windows_past : Ring → ℤ → ℤ → List Window
windows_past r past time = filter (λ w. int_lt past w.end) (windows_of r.size r.period time)

-- panes with a record of a key and a time, that is folded by these values, in each of those
abbrev pub with_assigned : List Kind → List Value → Ring → ℤ → ℕ → ℤ → Panes → Panes
with_assigned kinds values r past key time es = assigned (taking kinds values) (record_of key time) (windows_past r past time) es

-- a record can be put into the panes of these windows one after the other
pub record CanEnterWindows (r : Ring) (kinds : List Kind) (values : List Value) (key : ℕ) (time : ℤ) (ws : List Window) (es : List (Place × Pane (List Value))) : Type 0 where
  pub apart : LieInRing r (assigned (taking kinds values) (datum 0 (pos 0) key time []) ws es)
  pub takes : AllByRecursion (λ w. IfSome (find place_cmp (at key w) es) (CanRecord kinds values)) ws

-- a record can be put into the panes of the windows that have its time inside and end past another
pub record CanAssign (kinds : List Kind) (values : List Value) (key : ℕ) (time past : ℤ) (table : RingState (Pane (List Value))) : Type 0 where
  pub size : table.ring.size ≤ℤ greatest_span
  pub timely : IsTime time
  pub marked : IsTime past
  pub after : time ≤ℤ past
  pub wide : length values ≡ table.widths.accumulators
  pub types : IsTrue (are_of_kinds kinds values)
  pub can : CanEnterWindows table.ring kinds values key time (windows_past table.ring past time) (map.entries table.panes)

-- it was
pub record HasAssigned (kinds : List Kind) (values : List Value) (key : ℕ) (time past : ℤ) (old new : RingState (Pane (List Value))) : Type 0 where
  pub panes : map.entries new.panes ≡ with_assigned kinds values old.ring past key time (map.entries old.panes)
  pub keeps : IsAsLarge old new
