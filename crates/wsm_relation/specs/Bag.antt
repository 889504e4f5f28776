-- A relation at an instant, as a clause sees it.
use Rattle.std.specs.Prelude.{ℕ, List}
use Rattle.wsm_record.specs.declared.cell.Cell.{Cell}

-- the rows of a relation in row order, for how many there is room, and how many columns they have
pub record Bag : Type 0 where
  pub rows : List (List Cell)
  pub room : ℕ
  pub columns : ℕ
