-- Where rows go, and what that makes of the rows of each part.
use Rattle.std.proofs.Common.{◌≡◌, ◌∷◌, ◌++◌, [], ℕ, List, inl, inr}
use Rattle.std.specs.Prelude.{if◌then◌else◌}
use Rattle.std.proofs.lemmas.Bool.{cases_Bool}
use Rattle.indexmap.proofs.SetLemmas.{filter_keep, filter_skip}
use Rattle.wsm_deal.specs.Deal.{Sharing, dealt_to, goal_of, is_for}

-- the rows of a part with one row more
pub dealt_more : (s : Sharing) (k : ℕ) (rows : List (List (List ℕ))) (row : List (List ℕ))
    → dealt_to s k (rows ++ row ∷ []) ≡ (if is_for k (goal_of s row) then dealt_to s k rows ++ row ∷ [] else dealt_to s k rows)
dealt_more s k rows row = elim (cases_Bool (is_for k (goal_of s row))) [
  | inl for ↦ rw for (filter_keep (λ r. is_for k (goal_of s r)) rows row for)
  | inr not_for ↦ rw not_for (filter_skip (λ r. is_for k (goal_of s r)) rows row not_for)
]
