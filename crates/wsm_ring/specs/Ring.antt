-- A ring of slots: which slot a place has, and which panes can stand there.
use Rattle.std.specs.Prelude.{◌≡◌, ◌≢◌, ◌⊎◌, ◌<ℤ◌, ℕ, ◌+◌, ◌*◌, ◌^◌, ◌≤◌, Bool, true, false, List, [], ◌∷◌, Option, Some, None, length, if◌then◌else◌, slice_set, ◌<◌, ℤ, pos, ◌+ℤ◌, ◌-ℤ◌, ◌*ℤ◌, ◌≤ℤ◌, unsigned_abs}
use Rattle.std.specs.Int.{w64, int_div_euclid, int_min, int_rem_euclid}
use Rattle.std.specs.Int.RustNames.{FitsSigned}
use Rattle.std.specs.Option.{is_some}
use Rattle.std.specs.Ordering.{int_eq}
use Rattle.std.specs.List.{AllByRecursion}
use Rattle.std.specs.FinMap as map
use Rattle.wsm_windows.specs.declared.place.Place.{Place}
use Rattle.wsm_windows.specs.Places.{place_cmp}
use Rattle.wsm_ring.specs.declared.ring.Ring.{Ring}
use Rattle.wsm_ring.specs.declared.ring.Row.{Row}
use Rattle.wsm_slots.specs.Layout.{Slotted}
use Rattle.wsm_slots.specs.Place.{is_kept}
use Rattle.wsm_slots.specs.Slots.{slot_at, pane_of}
use Rattle.wsm_slots.specs.declared.spot.Spot.{Spot}

-- periods of at least one and at most the size; at least one key and window; slots that can be counted
pub record IsRing (r : Ring) : Type 0 where
  pub period_low : pos 1 ≤ℤ r.period
  pub period_high : r.period ≤ℤ r.size
  pub keys : 1 ≤ r.keys
  pub bound : 1 ≤ r.bound
  pub windows : r.bound ≤ 2 ^ 32
  pub slots : r.bound * r.keys ≤ 2 ^ 32

-- which of the windows, counted from the one at 0 on, starts at a time
abbrev pub window_number : Ring → ℤ → ℤ
window_number r start = int_div_euclid start r.period

-- the first slot of a window: a row of slots, one for each key
abbrev pub row_of : Ring → ℤ → ℕ
row_of r start = unsigned_abs (int_rem_euclid (window_number r start) (pos r.bound)) * r.keys

abbrev pub slot_of : Ring → Place → ℕ
slot_of r p = row_of r p.start + p.key

-- a window of the shape can start at the time
abbrev pub IsOnGrid : Ring → ℤ → Type 0
IsOnGrid r start = (k : ℤ) × (start ≡ k *ℤ r.period)

-- its window can start there, and the slot is the first one of that window
pub record IsRow (r : Ring) (row : Row) : Type 0 where
  pub grid : IsOnGrid r row.start
  pub slot : row.slot ≡ row_of r row.start

-- windows are fixed, and the one from a start on has a time inside and ends past another
pub record IsAlone (r : Ring) (start time past : ℤ) : Type 0 where
  pub fixed : r.size ≡ r.period
  pub inside : start ≤ℤ time
  pub lasting : past <ℤ (start +ℤ r.size)

-- its window is one of the shape, and its key one of the keys
pub record IsOfRing (r : Ring) (p : Place) : Type 0 where
  pub key : p.key < r.keys
  pub start : p.start ≡ window_number r p.start *ℤ r.period
  pub end : p.end ≡ p.start +ℤ r.size

-- the place is of the ring, and its window starts less than the ring's windows behind a time
pub record IsNear (r : Ring) (low : ℤ) (p : Place) : Type 0 where
  pub of : IsOfRing r p
  pub from : low ≤ℤ p.start
  pub until : p.start <ℤ (low +ℤ pos (r.bound * unsigned_abs r.period))

-- there is such a ring, and all places lie near a time: no two of them share a slot
pub record LieInRing {X : Type 0} (r : Ring) (es : List (Place × X)) : Type 0 where
  pub ring : IsRing r
  pub low : ℤ
  pub near : AllByRecursion (λ e. IsNear r low e.0) es

-- the pane is there, or its slot is free
abbrev pub RingAdmits : {P : Type 0} → Ring → map.FinMap place_cmp P → Place → Type 0
RingAdmits r ps p = IsOfRing r p × ((map.contains_key ps p ≡ true) ⊎ ((q : Place) → slot_of r q ≡ slot_of r p → map.get ps q ≡ None))

-- the entries in slots
abbrev pub held : {X : Type 0} → List (Option X) → List X
held [] = []
held (None ∷ os) = held os
held (Some x ∷ os) = x ∷ held os

-- the entry in the slot that was found, if one was
abbrev pub at_slot : {X : Type 0} → List (Option X) → Option ℕ → Option X
at_slot os None = None
at_slot os (Some i) = slot_at os i

-- what is left in a slot of what is past a limit
abbrev pub kept_slot : {P : Type 0} → ℤ → Option (Place × P) → Option (Place × P)
kept_slot limit None = None
kept_slot limit (Some e) = if is_kept limit e.0 then Some e else None

-- the slot is cleared where it has the pane at the place, and else all stays
abbrev pub IsTakenOut : {P : Type 0} → Place → ℕ → List (Option (Place × P)) → List (Option (Place × P)) → Type 0
IsTakenOut p i os ns = ((pane_of p (slot_at os i) ≡ None) × (ns ≡ os)) ⊎ ((v : _) × (slot_at os i ≡ Some (p, v)) × (i < length os) × (ns ≡ slice_set os i None))

-- each entry is of the ring, and in its own slot
abbrev pub AreInPlace : {P : Type 0} → Ring → List (Option (Place × P)) → Type 0
AreInPlace r os = (i : ℕ) (e : Place × _) → slot_at os i ≡ Some e → IsOfRing r e.0 × (slot_of r e.0 ≡ i)

-- slots are those of a ring, and each entry is in its own
pub record AreOfRing {P : Type 0} (r : Ring) (os : List (Option (Place × P))) : Type 0 where
  pub ring : IsRing r
  pub slots : length os ≡ r.bound * r.keys
  pub placed : AreInPlace r os

-- their entries can be walked from a window that starts at a time until one that starts at another
pub record CanWalk {P : Type 0} (r : Ring) (os : List (Option (Place × P))) (start last : ℤ) : Type 0 where
  pub all : AreOfRing r os
  pub grid : IsOnGrid r start
  pub fits : FitsSigned w64 (last +ℤ r.size)

-- so many entries fewer, in as many slots, which are as wide
pub record AreCleared (old new : Slotted) (cleared : ℕ) : Type 0 where
  pub widths : new.widths ≡ old.widths
  pub size : length new.slots ≡ length old.slots
  pub len : length (held new.slots) + cleared ≡ length (held old.slots)

-- no entry starts before the first time or after the last
abbrev pub AreBetween : {P : Type 0} → ℤ → ℤ → List (Option (Place × P)) → Type 0
AreBetween low high os = (i : ℕ) (e : Place × _) → slot_at os i ≡ Some e → (low ≤ℤ e.0.start) × (e.0.start ≤ℤ high)

-- the place is at a window and a key, or behind them
abbrev pub IsFromOn : ℤ → ℕ → Place → Type 0
IsFromOn start key p = (start <ℤ p.start) ⊎ ((p.start ≡ start) × (key ≤ p.key))

-- the first entry from a window and a key on, if there is one
abbrev pub IsFirstFrom : {P : Type 0} → Ring → List (Option (Place × P)) → ℤ → ℕ → Option (Place × P) → Type 0
IsFirstFrom r os start key None = (i : ℕ) (e : Place × _) → slot_at os i ≡ Some e → ¬ (IsFromOn start key e.0)
IsFirstFrom r os start key (Some e) = (slot_at os (slot_of r e.0) ≡ Some e) × IsFromOn start key e.0 × ((i : ℕ) (f : Place × _) → slot_at os i ≡ Some f → IsFromOn start key f.0 → IsFromOn e.0.start e.0.key f.0)

-- the first entry from a window and a key on, if there is one that starts by a last time
abbrev pub IsFirstUntil : {P : Type 0} → Ring → List (Option (Place × P)) → ℤ → ℕ → ℤ → Option (Place × P) → Type 0
IsFirstUntil r os start key last None = (i : ℕ) (e : Place × _) → slot_at os i ≡ Some e → IsFromOn start key e.0 → last <ℤ e.0.start
IsFirstUntil r os start key last (Some e) = IsFirstFrom r os start key (Some e) × (e.0.start ≤ℤ last)

-- the slot has that entry, if there is one
pub record IsFoundUntil {P : Type 0} (r : Ring) (os : List (Option (Place × P))) (start : ℤ) (key : ℕ) (last : ℤ) (found : Option ℕ) : Type 0 where
  pub first : IsFirstUntil r os start key last (at_slot os found)
  pub there : is_some (at_slot os found) ≡ is_some found

-- the last start of a window that ends by a limit, of those from a first start to a last one, if one does
abbrev pub IsLastDue : Ring → ℤ → ℤ → ℤ → Option ℤ → Type 0
IsLastDue r first last limit None = (start : ℤ) → first ≤ℤ start → limit <ℤ (start +ℤ r.size)
IsLastDue r first last limit (Some until) = (until ≡ int_min last (limit -ℤ r.size)) × FitsSigned w64 (until +ℤ r.size)

-- the next time on the grid behind a time
pub record IsNextOnGrid (p before next : ℤ) : Type 0 where
  pub grid : (k : ℤ) × (next ≡ k *ℤ p)
  pub behind : before <ℤ next
  pub near : next ≤ℤ (before +ℤ p)
  pub least : (l other : ℤ) → other ≡ l *ℤ p → before <ℤ other → next ≤ℤ other

-- the first start on the grid, of those from a first start on, of a window that ends past a time
abbrev pub IsFirstPast : Ring → ℤ → ℤ → ℤ → Type 0
IsFirstPast r first after start = IsOnGrid r start × (after <ℤ (start +ℤ r.size)) × ((other : ℤ) → IsOnGrid r other → first ≤ℤ other → after <ℤ (other +ℤ r.size) → start ≤ℤ other)

-- whether a slot has an entry of the window that starts at a time
abbrev pub starts_at : {P : Type 0} → ℤ → Option (Place × P) → Bool
starts_at start None = false
starts_at start (Some e) = int_eq e.0.start start

-- none of a row's slots, from one to before another, has an entry of the window
abbrev pub NoneInRow : {P : Type 0} → List (Option (Place × P)) → ℕ → ℤ → ℕ → ℕ → Type 0
NoneInRow os row start key end = (k : ℕ) (e : Place × _) → key ≤ k → k < end → slot_at os (row + k) ≡ Some e → e.0.start ≢ start

-- the first entry of a window in a row, from a key on
abbrev pub IsFirstInRow : {P : Type 0} → List (Option (Place × P)) → ℕ → ℤ → ℕ → ℕ → Option (Place × P) → Type 0
IsFirstInRow os row start key keys None = NoneInRow os row start key keys
IsFirstInRow os row start key keys (Some e) = (k : ℕ) × (key ≤ k) × (k < keys) × (slot_at os (row + k) ≡ Some e) × (e.0.start ≡ start) × NoneInRow os row start key k

-- the spot tells the slot of its place in a ring
abbrev pub HasSlot : Ring → Spot → Type 0
HasSlot r spot = spot.at ≡ slot_of r spot.place
