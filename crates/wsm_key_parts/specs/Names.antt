-- The numbers of names: in the order of those that are given first, and then in which they come. So a name has its number as it
-- comes, and keeps it.
use Rattle.std.specs.Prelude.{◌≡◌, refl, ℕ, false, List, [], ◌∷◌, ◌++◌, length, position, bytes_eq, Some, IsSome, codes, if◌then◌else◌}
use Rattle.std.specs.List.{list_any}

-- the names that are known once one came
abbrev pub with_name : List (List ℕ) → List ℕ → List (List ℕ)
with_name names name = if list_any (bytes_eq name) names then names else names ++ name ∷ []

-- and once some came, the first of them first
abbrev pub with_names : List (List ℕ) → List (List ℕ) → List (List ℕ)
with_names names [] = names
with_names names (name ∷ later) = with_names (with_name names name) later

-- a name that came has a number, which it has among all that ever come; a new one has the next
pub record NumbersStay : Type 0 where
  pub known : (names : List (List ℕ)) (name : List ℕ) → IsSome (position (bytes_eq name) (with_name names name))
  pub stays : (names : List (List ℕ)) (name : List ℕ) (later : List (List ℕ)) →
      position (bytes_eq name) (with_names (with_name names name) later) ≡ position (bytes_eq name) (with_name names name)
  pub next : (names : List (List ℕ)) (name : List ℕ) → list_any (bytes_eq name) names ≡ false →
      position (bytes_eq name) (with_name names name) ≡ Some (length names)

-- two names of a file, then a new one, one of the file and another new one
they_are_numbered :
    with_names (codes "b" ∷ codes "a" ∷ []) (codes "d" ∷ codes "a" ∷ codes "c" ∷ codes "d" ∷ [])
    ≡ codes "b" ∷ codes "a" ∷ codes "d" ∷ codes "c" ∷ []
they_are_numbered = refl
