-- The fold of a bag by kind, over its values in any order: sum, least, greatest, some, all.
use Rattle.std.specs.Prelude.{ℕ, Bool, true, false, ◌||◌, ◌&&◌, List, [], ◌∷◌, map, ℤ, pos, ◌+ℤ◌, ◌*ℤ◌, ◌≤ℤ◌, Option}
use Rattle.std.specs.List.{slice_index_or}
use Rattle.std.specs.Int.{int_min, int_max}
use Rattle.wsm_record.specs.declared.event.Value.{Value}
use Rattle.wsm_record.specs.declared.event.Value.TheVariants.{Int, Bool as Truth}
use Rattle.wsm_record.specs.declared.words.Kind.{Kind}
use Rattle.wsm_record.specs.declared.words.Kind.TheVariants.{Sum, Min, Max, Any, All}
use Rattle.wsm_fold.specs.Laws.{fold_by, IsBetween}

-- ---- which values an accumulator folds

-- numbers for SUM, MIN and MAX, truths for ANY and ALL
abbrev pub is_of_kind : Kind → Value → Bool
is_of_kind Sum (Int n) = true
is_of_kind Min (Int n) = true
is_of_kind Max (Int n) = true
is_of_kind Any (Truth b) = true
is_of_kind All (Truth b) = true
is_of_kind _ _ = false

-- one value for each accumulator, of its type
abbrev pub are_of_kinds : List Kind → List Value → Bool
are_of_kinds [] [] = true
are_of_kinds (k ∷ ks) (v ∷ vs) = is_of_kind k v && are_of_kinds ks vs
are_of_kinds _ _ = false

-- ---- what they fold to

abbrev pub number_of : Value → ℤ
number_of (Int n) = n
number_of _ = pos 0

abbrev pub truth_of : Value → Bool
truth_of (Truth b) = b
truth_of _ = false

-- two values in one; a value of the other type, which no accumulator meets, counts as 0 or false
abbrev pub join : Kind → Value → Value → Value
join Sum a b = Int (number_of a +ℤ number_of b)
join Min a b = Int (int_min (number_of a) (number_of b))
join Max a b = Int (int_max (number_of a) (number_of b))
join Any a b = Truth (truth_of a || truth_of b)
join All a b = Truth (truth_of a && truth_of b)

-- a bag without values has no fold
abbrev pub fold_of : Kind → List Value → Option Value
fold_of k values = fold_by (join k) values

-- accumulator by accumulator
abbrev pub joins : List Kind → List Value → List Value → List Value
joins (k ∷ ks) (a ∷ xs) (b ∷ ys) = join k a b ∷ joins ks xs ys
joins _ _ _ = []

-- of rows of values that are folded together, one value an accumulator in each
abbrev pub folds_of : List Kind → List (List Value) → Option (List Value)
folds_of ks rows = fold_by (joins ks) rows

-- ---- a bag's values at one place, and their range

-- the values at place a of each row
abbrev pub column : ℕ → List (List Value) → List Value
column a rows = map (λ row. slice_index_or row a (Int (pos 0))) rows

-- SUM, MIN and MAX fold numbers
abbrev pub folds_numbers : Kind → Bool
folds_numbers k = is_of_kind k (Int (pos 0))

-- the fold of n numbers that are all x
abbrev pub times : Kind → ℕ → ℤ → ℤ
times Sum n x = pos n *ℤ x
times _ n x = x

-- a number between the bounds
abbrev pub IsNumberBetween : ℤ → ℤ → Value → Type 0
IsNumberBetween lo hi (Int n) = IsBetween ◌≤ℤ◌ lo hi n
IsNumberBetween lo hi _ = ⊥
