-- Lists of rows in row order, and how often a row is there.
use Rattle.std.specs.Prelude.{◌≡◌, ℕ, ◌+◌, false, List, [], ◌∷◌, if◌then◌else◌}
use Rattle.std.specs.List.{AllByRecursion}
use Rattle.std.specs.Ordering.{is_eq, is_gt}
use Rattle.wsm_record.specs.declared.cell.Cell.{Cell}
use Rattle.wsm_semantics.specs.Relation.{row_cmp}

-- no row is behind a later one
abbrev pub IsInOrder : List (List Cell) → Type 0
IsInOrder [] = Unit {0}
IsInOrder (x ∷ xs) = AllByRecursion (λ y. is_gt (row_cmp x y) ≡ false) xs × IsInOrder xs

-- how often a row is there
abbrev pub count_of : List Cell → List (List Cell) → ℕ
count_of r [] = 0
count_of r (x ∷ xs) = (if is_eq (row_cmp r x) then 1 else 0) + count_of r xs
