-- How the text of a row is put behind other bytes.
use Rattle.std.specs.Prelude.{◌≡◌, ◌≤◌, ◌++◌, ◌∷◌, [], ℕ, Bool, true, List, get_or, length, take}
use Rattle.csv.specs.Writing.{default_writer, field_text}
use Rattle.wsm_deal.specs.declared.row_text.TheConstants.{FEW}

-- where it is told the text stands behind what was there, which stays in any case
pub record Adds (told : Bool) (text old new : List ℕ) : Type 0 where
  pub all : told ≡ true → new ≡ old ++ text
  pub kept : take (length old) new ≡ old

-- three to eight cells, the first of which is written as this byte
pub record AreFew (tag : ℕ) (cells : List (List ℕ)) : Type 0 where
  pub three : 3 ≤ length cells
  pub few : length cells ≤ FEW
  pub tagged : field_text default_writer (get_or cells 0 []) ≡ tag ∷ []
