-- What is kept of each clock, and what of it speaks.
use Rattle.std.specs.Prelude.{◌≡◌, ℕ, zero, suc, ◌+◌, ◌&&◌, Bool, false, List, [], ◌∷◌, get_or, length, nat_eq, nat_le, nat_lt}
use Rattle.std.specs.Prelude.{Option, Some, None, if◌then◌else◌}
use Rattle.wsm_watermarks.specs.declared.stamp.Stamp.{Stamp}
use Rattle.wsm_watermarks.specs.declared.table.Said.{Said}

-- the last stamps of clocks by their numbers; how many stamps have come; and which of the clocks are counted: those that spoke
-- behind a number of stamps and tell a time, or a later one
pub record Sayings : Type 0 where
  pub said : List (Option Said)
  pub heard : ℕ
  pub since : ℕ
  pub need : ℕ

-- the last stamp of a clock: its time, and which stamp it was
abbrev pub last_said : ℕ → List Stamp → Option Said
last_said clock [] = None
last_said clock (s ∷ past) = if nat_eq s.clock clock then Some (record { time = s.time; number = suc (length past) }) else last_said clock past

-- a last stamp that came behind a number of stamps tells a time, or a later one
abbrev pub is_counted : ℕ → ℕ → Option Said → Bool
is_counted since need None = false
is_counted since need (Some said) = nat_lt since said.number && nat_le need said.time

-- one stamp more, where that of a clock is counted
abbrev pub with_said : ℕ → ℕ → ℕ → Option Said → List Stamp → List Stamp
with_said since need clock None rest = rest
with_said since need clock (Some said) rest = if is_counted since need (Some said) then record { clock = clock; time = said.time } ∷ rest else rest

-- the last stamps of the first clocks that are counted
abbrev pub speaking : ℕ → ℕ → List (Option Said) → ℕ → List Stamp
speaking since need said zero = []
speaking since need said (suc n) = with_said since need n (get_or said n None) (speaking since need said n)

-- how many they are
abbrev pub counted : ℕ → ℕ → List (Option Said) → ℕ → ℕ
counted since need said zero = 0
counted since need said (suc n) = (if is_counted since need (get_or said n None) then 1 else 0) + counted since need said n

-- what is kept is the history's
pub record FitsTable (k : Sayings) (past : List Stamp) : Type 0 where
  pub heard : k.heard ≡ length past
  pub said : (clock : ℕ) → get_or k.said clock None ≡ last_said clock past
