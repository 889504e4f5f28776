-- What a list has afterwards, in the memory that it had.
use Rattle.std.specs.Prelude.{◌≡◌, List, length, ℤ, vec_capacity}
use Rattle.std.specs.Global.{Vec}
use Rattle.wsm_record.specs.declared.cell.Cell.{Cell}
use Rattle.wsm_relation.specs.declared.steps.Step.{Step}
use Rattle.wsm_relation.specs.Delta.{ArePlaces, steps_in}

-- these items
pub record HasItems {A : Type 0} (old new : Vec A) (xs : List A) : Type 0 where
  pub items : new.items ≡ xs
  pub capacity : vec_capacity new ≡ vec_capacity old

-- steps at places of rows, which come to these rows with numbers
pub record HasSteps (rows : List (List Cell)) (old new : Vec Step) (es : List (List Cell × ℤ)) : Type 0 where
  pub numbers : steps_in rows new.items ≡ es
  pub places : ArePlaces (length rows) new.items
  pub capacity : vec_capacity new ≡ vec_capacity old
