-- The identifiers of records that passed. One is forgotten once a record of its time would be late, since a double that passes
-- then is late by itself. This is the memory of wsm_semantics/specs/Deliveries.antt, with the texts of identifiers.
use Rattle.std.specs.Prelude.{◌≡◌, ℕ, ◌*◌, ◌≤◌, max, Bool, not, List, ◌∷◌, filter, length, ℤ, ◌≤ℤ◌, bytes_eq}
use Rattle.std.specs.List.{list_any}
use Rattle.wsm_windows.specs.declared.window.Shape.{Shape}
use Rattle.wsm_admission.specs.declared.clock.Clock.{Clock}
use Rattle.wsm_admission.specs.Clock.{is_late}

-- identifiers with the times of their records, the newest first
abbrev pub Memory : Type 0
Memory = List (List ℕ × ℤ)

abbrev pub knows : List ℕ → Memory → Bool
knows i memory = list_any (λ k. bytes_eq i k.0) memory

-- a record of its time isn't late yet
abbrev pub may_count : Clock → Shape → ℤ → List ℕ × ℤ → Bool
may_count c shape mark k = not (is_late c shape mark k.1)

-- without what can't count any more at a watermark
abbrev pub live : Clock → Shape → ℤ → Memory → Memory
live c shape mark memory = filter (may_count c shape mark) memory

-- behind a record that passes at a watermark
abbrev pub remembered : Clock → Shape → ℤ → List ℕ → ℤ → Memory → Memory
remembered c shape mark i time memory = live c shape mark ((i, time) ∷ memory)

-- what is kept, which may have some that can't count any more, and the number with which these are dropped
pub record Kept : Type 0 where
  pub entries : Memory
  pub room : ℕ

-- an identifier is known at a watermark
abbrev pub is_known : Clock → Shape → ℤ → List ℕ → Kept → Bool
is_known c shape mark i kept = knows i (live c shape mark kept.entries)

-- what is kept knows what a memory knows, at a watermark and at each later one; the memory has nothing that can't count there
pub record Recalls (c : Clock) (shape : Shape) (mark : ℤ) (kept : Kept) (memory : Memory) : Type 0 where
  pub alike : (later : ℤ) → mark ≤ℤ later → (i : List ℕ) → is_known c shape later i kept ≡ knows i (live c shape later memory)
  pub prompt : live c shape mark memory ≡ memory

-- the fewest identifiers with which any are dropped
abbrev pub least_room : ℕ
least_room = 4096

-- where so many may count at most, no more are kept than twice as many, or than the fewest with which any are dropped
pub record IsSmall (most : ℕ) (kept : Kept) : Type 0 where
  pub within : length kept.entries ≤ kept.room
  pub room : kept.room ≤ max (2 * most) least_room
