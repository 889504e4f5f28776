-- The part of a key, and what is known of a row by its first cells.
use Rattle.std.proofs.Common.{◌≡◌, ◌∷◌, [], ℕ, List, Option, Some, None, refl, ap, subst, drop, position}
use Rattle.std.specs.Prelude.{◌/◌, bytes_eq, option_map, slice_get, unwrap_or}
use Rattle.wsm_deal.specs.Deal.{Sharing, part_of}

pub part_found : (s : Sharing) (names : List (List ℕ)) (block : ℕ) (key : List ℕ) (found : Option ℕ) → record { names = names; block = block } ≡ s → found ≡ position (bytes_eq key) names
    → unwrap_or (option_map (λ n. n / block) found) 0 ≡ part_of s key
part_found s names block key found e h =
    subst (λ (t : Sharing). unwrap_or (option_map (λ n. n / block) found) 0 ≡ part_of t key) e (ap (λ (o : Option ℕ). unwrap_or (option_map (λ n. n / block) o) 0) h)

pub first_cell : (cells : List (List ℕ)) (cell : List ℕ) → slice_get cells 0 ≡ Some cell → cells ≡ cell ∷ drop 1 cells
first_cell [] cell e = cc e
first_cell (x ∷ xs) cell e = ap (λ (c : List ℕ). c ∷ xs) (cc e)

pub no_first_cell : (cells : List (List ℕ)) → slice_get cells 0 ≡ None → cells ≡ []
no_first_cell [] e = refl
no_first_cell (x ∷ xs) e = cc e

-- the part of the key that is its only name
pub part_at : (s : Sharing) (names : List (List ℕ)) (block number : ℕ) (key : List ℕ) → record { names = names; block = block } ≡ s → Some number ≡ position (bytes_eq key) names → number / block ≡ part_of s key
part_at s names block number key e h = part_found s names block key (Some number) e h
