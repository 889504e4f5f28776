-- Entries in slots: those of a row in their order, and the slots that are free.
use Rattle.std.specs.Prelude.{◌≡◌, ◌≤◌, ℕ, ◌+◌, List, [], ◌∷◌, length, true, Option, Some, None, if◌then◌else◌, nat_eq, nat_lt}
use Rattle.std.specs.FinMap as map
use Rattle.std.specs.Option.{is_some}
use Rattle.wsm_windows.specs.declared.place.Place.{Place}
use Rattle.wsm_windows.specs.Places.{place_cmp}
use Rattle.wsm_slots.specs.Slots.{slot_at}

abbrev pub with_entry : {X : Type 0} → Option X → List X → List X
with_entry None es = es
with_entry (Some e) es = e ∷ es

-- the entries of the slots in a row
abbrev pub shown : {X : Type 0} → List (Option X) → List ℕ → List X
shown slots [] = []
shown slots (s ∷ row) = with_entry (slot_at slots s) (shown slots row)

-- each slot in the row has an entry
abbrev pub AreIn : {X : Type 0} → List (Option X) → List ℕ → Type 0
AreIn slots [] = Unit {0}
AreIn slots (s ∷ row) = (is_some (slot_at slots s) ≡ true) × AreIn slots row

-- and they are in the order of their places
pub record AreStored {P : Type 0} (slots : List (Option (Place × P))) (row : List ℕ) : Type 0 where
  pub there : AreIn slots row
  pub sorted : map.is_sorted place_cmp (shown slots row) ≡ true

-- ---- slots in a row and free ones

abbrev pub same : ℕ → ℕ → ℕ
same r s = if nat_eq r s then 1 else 0

-- how often a slot is in a list
abbrev pub listed : ℕ → List ℕ → ℕ
listed s [] = 0
listed s (r ∷ rs) = same r s + listed s rs

-- each slot that has an entry is in the row, once
abbrev pub AreListed : {X : Type 0} → List (Option X) → List ℕ → Type 0
AreListed slots row = (s : ℕ) → is_some (slot_at slots s) ≡ true → listed s row ≡ 1

-- slots are free afterwards, and the others are as they were
pub record AreFreed {X : Type 0} (freed : List ℕ) (old new : List (Option X)) : Type 0 where
  pub gone : (s : ℕ) → 1 ≤ listed s freed → slot_at new s ≡ None
  pub others : (s : ℕ) → listed s freed ≡ 0 → slot_at new s ≡ slot_at old s
  pub count : length new ≡ length old

-- slots in a row, and how many there are with the free ones
pub record Taken : Type 0 where
  pub row : List ℕ
  pub room : ℕ

-- each slot below the room is in the row or free, once
pub record AreApart (room : ℕ) (row free : List ℕ) : Type 0 where
  pub once : (s : ℕ) → listed s row + listed s free ≡ (if nat_lt s room then 1 else 0)
  pub count : length row + length free ≡ room
