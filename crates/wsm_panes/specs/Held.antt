-- The panes that are held, and what a record does to them.
use Rattle.std.specs.Prelude.{◌≡◌, ◌≢◌, ℕ, ◌*◌, ◌^◌, ◌≤◌, ◌<◌, Bool, true, IsTrue, List, [], ◌∷◌, length, filter, nat_eq, false, ℤ, pos, Option, Some, None, IfSome, IsSome, refl}
use Rattle.std.specs.List.{AllByRecursion}
use Rattle.std.specs.Coded.{Coded, code_by, coded×, coded_ℕ}
use Rattle.std.specs.FinMap as map
use Rattle.std.specs.FinMap.Entries.{find, put}
use Rattle.wsm_record.specs.declared.event.Value.{Value}
use Rattle.wsm_record.specs.declared.cell.Cell.{Cell}
use Rattle.wsm_record.specs.declared.words.Kind.{Kind}
use Rattle.wsm_record.specs.declared.words.Mode.{Mode}
use Rattle.wsm_record.specs.declared.limits.TheConstants.{MAX_ACCUMULATORS, MAX_COLUMNS, MAX_PANES}
use Rattle.wsm_windows.specs.declared.window.Window.{Window}
use Rattle.wsm_windows.specs.declared.window.Shape.{Shape}
use Rattle.wsm_windows.specs.declared.window.Shape.TheVariants.{Session}
use Rattle.wsm_windows.specs.Windows.{IsShape, IsSpan, IsTime, period_of, size_of}
use Rattle.wsm_windows.specs.declared.place.Place.{Place}
use Rattle.wsm_windows.specs.Places.{place_cmp, window_of}
use Rattle.wsm_fold.specs.Fold.{are_of_kinds, joins}
use Rattle.wsm_fold.specs.Accumulators.{SumsFit}
use Rattle.wsm_semantics.specs.Query.{Datum}
use Rattle.wsm_semantics.specs.Replay.{datum}
pub use Rattle.wsm_semantics.specs.Summaries.{joins_sessions, windows_entered}
use Rattle.wsm_semantics.specs.Summaries.{Pane, entered, linked, session_with}
use Rattle.wsm_ring.specs.declared.ring.Ring.{Ring}
use Rattle.wsm_slots.specs.declared.spot.Spot.{Spot}
use Rattle.wsm_slots.specs.declared.widths.Widths.{Widths}
use Rattle.wsm_slots.specs.Place.{coded_place}
use Rattle.wsm_slots.specs.Widths.{coded_widths}
use Rattle.wsm_ring.specs.Ring.{LieInRing, HasSlot}
use Rattle.wsm_slots.specs.Panes.{once_fired, Panes, taking, CanTake}
use Rattle.wsm_list.specs.Joining.{first_two}

-- the panes, for keys of these numbers, with room for so many live windows of each and so many values of each pane
pub record Held : Type 0 where
  pub keys : ℕ
  pub shape : Shape
  pub live : ℕ
  pub widths : Widths
  pub panes : map.FinMap place_cmp (Pane (List Value))

abbrev pub coded_held : Coded Shape → Coded (Pane (List Value)) → Coded Held
coded_held shapes panes =
    code_by (ℕ × (Shape × (ℕ × (Widths × map.FinMap place_cmp (Pane (List Value)))))) (coded× coded_ℕ (coded× shapes (coded× coded_ℕ (coded× coded_widths (map.code coded_place panes)))))
    (λ h. (h.keys, (h.shape, (h.live, (h.widths, h.panes))))) (λ t. record { keys = t.0; shape = t.1.0; live = t.1.1.0; widths = t.1.1.1.0; panes = t.1.1.1.1 }) (λ _. refl)

abbrev pub entries_of : Held → List (Place × Pane (List Value))
entries_of h = map.entries h.panes

abbrev pub room_of : Held → ℕ
room_of h = h.keys * h.live

-- the ring for windows on a grid: a row of slots for as many of them as can be live
abbrev pub ring_of : Held → Ring
ring_of h = record { size = size_of h.shape; period = period_of h.shape; keys = h.keys; bound = h.live }

-- where windows lie on a grid the spot tells the slot of its place, so that none is asked for; a list
-- looks whether it still has the place there
abbrev pub IsSpot : Held → Spot → Type 0
IsSpot h spot = ((gap : ℤ) → h.shape ≢ Session gap) → 1 ≤ room_of h → HasSlot (ring_of h) spot

-- the place of the spot has a pane, and lies where the spot says
pub record IsHeldAt (h : Held) (spot : Spot) : Type 0 where
  pub there : IsSome (find place_cmp spot.place (entries_of h))
  pub lies : IsSpot h spot

-- there can be panes of such a shape, as many and as wide
pub record CanOpen (shape : Shape) (keys live : ℕ) (widths : Widths) : Type 0 where
  pub possible : IsShape shape
  pub room : keys * live ≤ MAX_PANES
  pub accumulators : widths.accumulators ≤ MAX_ACCUMULATORS
  pub columns : widths.columns ≤ MAX_COLUMNS

-- the keys, the shape and the room stay
pub record IsKept (old new : Held) : Type 0 where
  pub keys : new.keys ≡ old.keys
  pub shape : new.shape ≡ old.shape
  pub live : new.live ≡ old.live
  pub widths : new.widths ≡ old.widths

-- the same of panes in their order
abbrev pub FiresAmong : Mode → Place → Option (List Cell) → Panes → Panes → Type 0
FiresAmong mode place row old new =
    (pane : Pane (List Value)) × (find place_cmp place old ≡ Some pane) × (new ≡ put place_cmp place (once_fired mode place row pane) old)

-- what is held with a record of a key and a time, that is folded by these values, at a mark: it is put
-- into its windows that are live
abbrev pub with_entered : List Kind → ℕ → ℤ → List Value → ℤ → ℤ → Held → List (Place × Pane (List Value))
with_entered kinds key time values lateness mark h = entered (taking kinds values) h.shape lateness (datum 0 mark key time []) (entries_of h)

abbrev pub are_sessions : Shape → Bool
are_sessions (Session gap) = true
are_sessions shape = false

-- the window of the session that a record is in, where windows are sessions
abbrev pub session_entered : Shape → Datum → List (Place × Pane (List Value)) → Option Window
session_entered (Session gap) d panes = Some (window_of (session_with gap d (linked gap d panes)))
session_entered shape d panes = None

-- the panes of the two sessions that a record joins, where it joins two
abbrev pub joined_panes : Shape → Datum → List (Place × Pane (List Value)) → Option (Pane (List Value) × Pane (List Value))
joined_panes (Session gap) d panes = first_two (linked gap d panes)
joined_panes shape d panes = None

pub record IsRoomy (kinds : List Kind) (values : List Value) (e : Place × Pane (List Value)) : Type 0 where
  pub count : e.1.count < 2 ^ 62
  pub unshown : e.1.unshown < 2 ^ 62
  pub takes : IfSome e.1.folded (CanTake kinds values)

-- a record of a key and a time, that is folded by these values, can be put in at a mark
pub record CanEnter (h : Held) (kinds : List Kind) (key : ℕ) (time : ℤ) (values : List Value) (lateness mark : ℤ) : Type 0 where
  pub declared : key < h.keys
  pub timely : IsTime time
  pub late : IsSpan lateness
  pub marked : IsTime mark
  pub few : length kinds ≤ MAX_ACCUMULATORS
  pub wide : length kinds ≡ h.widths.accumulators
  pub types : IsTrue (are_of_kinds kinds values)
  pub room : length (with_entered kinds key time values lateness mark h) ≤ room_of h
  pub live : length (filter (λ e. nat_eq e.0.key key) (with_entered kinds key time values lateness mark h)) ≤ h.live
  -- where windows lie on a grid, no two panes that are held with the record share a slot of the ring
  pub apart : ((gap : ℤ) → h.shape ≢ Session gap) → LieInRing (ring_of h) (with_entered kinds key time values lateness mark h)
  pub panes : AllByRecursion (IsRoomy kinds values) (entries_of h)
  -- the two sessions that it joins can be joined, and what they come to can take it
  pub joins : (gap : ℤ) → h.shape ≡ Session gap → (e f : Place × Pane (List Value)) (es : List (Place × Pane (List Value))) → linked gap (datum 0 (pos 0) key time []) (entries_of h) ≡ e ∷ f ∷ es
      → (xs ys : List Value) → e.1.folded ≡ Some xs → f.1.folded ≡ Some ys → SumsFit kinds xs ys × SumsFit kinds (joins kinds xs ys) values
