-- The lists that changes are kept in, as a clause sees them.
use Rattle.std.specs.Prelude.{◌≡◌, ℕ, List, ℤ}
use Rattle.wsm_record.specs.declared.cell.Cell.{Cell}
use Rattle.wsm_relation.specs.declared.steps.Step.{Step}
use Rattle.wsm_relation.specs.Delta.{IsDelta, summed}

-- the rows that are told and that stand, what is told of them and what stands, and for how many numbers there is room
pub record Kept : Type 0 where
  pub rows : List (List Cell)
  pub told : List Step
  pub standing : List Step
  pub room : ℕ

-- what it all comes to
abbrev pub numbers_in : Kept → List (List Cell × ℤ)
numbers_in k = summed k.rows k.told k.standing

-- it comes to these numbers, with room for so many
pub record HasNumbers (k : Kept) (es : List (List Cell × ℤ)) (n : ℕ) : Type 0 where
  pub numbers : numbers_in k ≡ es
  pub room : k.room ≡ n
  pub delta : IsDelta es
