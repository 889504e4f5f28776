-- What is promised of each fold, over values without bound.
use Rattle.std.specs.Prelude.{◌≡◌, ℕ, List, [], ◌∷◌, length, Option, Some, None, IfSome, All}

-- x joined to what there is
abbrev pub joined_to : {A : Type 0} → (A → A → A) → A → Option A → A
joined_to op x None = x
joined_to op x (Some y) = op x y

-- the values of a bag joined, where it has one
abbrev pub fold_by : {A : Type 0} → (A → A → A) → List A → Option A
fold_by op [] = None
fold_by op (x ∷ xs) = Some (joined_to op x (fold_by op xs))

-- between the bounds
pub record IsBetween {A : Type 0} (AtMost : A → A → Type 0) (lo hi x : A) : Type 0 where
  pub from : AtMost lo x
  pub to : AtMost x hi

-- values may be joined in any order and in any groups; a fold of values between bounds is between the bounds for their number
pub record FoldLaws {A : Type 0} (joined : A → A → A) (AtMost : A → A → Type 0) (times : ℕ → A → A) : Type 0 where
  pub commutative : (x y : A) → joined x y ≡ joined y x
  pub associative : (x y z : A) → joined (joined x y) z ≡ joined x (joined y z)
  pub in_range : (lo hi : A) (xs : List A) → All (IsBetween AtMost lo hi) xs
      → IfSome (fold_by joined xs) (IsBetween AtMost (times (length xs) lo) (times (length xs) hi))
