-- What is kept of some stamps: the clocks whose times are the latest.
use Rattle.std.specs.Prelude.{◌≡◌, ℕ, ◌<◌, ◌≤◌, ◌⊎◌, if◌then◌else◌, List, [], ◌∷◌, length, nat_lt, true}
use Rattle.std.specs.List.{AllByRecursion}
use Rattle.wsm_watermarks.specs.declared.stamp.Stamp.{Stamp}
use Rattle.wsm_watermarks.specs.Agreement.{has_told, tellers}

-- at most so many clocks, each with its latest time
pub record Kept : Type 0 where
  pub most : ℕ
  pub tops : List Stamp

-- a stamp of another clock, with a time that isn't greater
pub record IsBehind (s q : Stamp) : Type 0 where
  pub apart : q.clock ≡ s.clock → ⊥
  pub time : q.time ≤ s.time

-- stamps of clocks that differ, the greatest time first
abbrev pub IsBoard : List Stamp → Type 0
IsBoard [] = Unit {0}
IsBoard (s ∷ ss) = AllByRecursion (IsBehind s) ss × IsBoard ss

pub record IsKept (k : Kept) : Type 0 where
  pub some : 0 < k.most
  pub few : length k.tops ≤ k.most
  pub board : IsBoard k.tops

-- what is kept says nothing that the stamps don't, and for each time all clocks that told it, or a later one, or as many as are kept
pub record IsCut (most : ℕ) (tops past : List Stamp) : Type 0 where
  pub only : (clock t : ℕ) → has_told clock t tops ≡ true → has_told clock t past ≡ true
  pub all : (clock t : ℕ) → has_told clock t past ≡ true → (has_told clock t tops ≡ true) ⊎ (most ≤ tellers t tops)

-- what is kept is that of the stamps
abbrev pub Fits : Kept → List Stamp → Type 0
Fits k past = IsCut k.most k.tops past

-- a stamp put behind those with a time as great
abbrev pub placed : Stamp → List Stamp → List Stamp
placed s [] = s ∷ []
placed s (q ∷ qs) = if nat_lt q.time s.time then s ∷ q ∷ qs else q ∷ placed s qs
