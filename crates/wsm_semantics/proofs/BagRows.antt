-- Rows that are told from the key, the number of records and a fold of what each says, where the fold
-- doesn't depend on the order: these ignore the order of the records, and their turns.
use Rattle.std.proofs.Common.{◌≡◌, ℕ, List, map, length, ℤ, Option, sym, ap, ◌∙◌}
use Rattle.std.proofs.lemmas.List.{length-map}
use Rattle.std.proofs.lemmas.List.Sorted.{IsPermutation-map, length_permutation}
use Rattle.std.specs.Prelude.{IsPermutation}
use Rattle.wsm_record.specs.declared.event.Value.{Value}
use Rattle.wsm_record.specs.declared.cell.Cell.{Cell}
use Rattle.wsm_semantics.specs.Query.{Datum, Query}
use Rattle.wsm_semantics.specs.Order.{said_by, SameBag, IgnoresOrder}
use Rattle.wsm_semantics.proofs.Each.{map-map}

same_number : (ds es : List Datum) → SameBag ds es → length ds ≡ length es
same_number ds es h = sym (length-map ds said_by) ∙ sym (length_permutation (map said_by ds) (map said_by es) h) ∙ length-map es said_by

module _ {A X : Type 0} (folded : List A → X) (free : (xs ys : List A) → IsPermutation xs ys → folded ys ≡ folded xs) (part : ℕ × ℤ × List Value → A) where
  same_fold : (ds es : List Datum) → SameBag ds es → folded (map (λ d. part (said_by d)) ds) ≡ folded (map (λ d. part (said_by d)) es)
  same_fold ds es h =
      ap folded (sym (map-map part said_by ds))
      ∙ sym (free (map part (map said_by ds)) (map part (map said_by es)) (IsPermutation-map part (map said_by ds) (map said_by es) h))
      ∙ ap folded (map-map part said_by es)

  pub ignores_order : (q : Query) (row : ℕ → ℕ → X → Option (List Cell)) → ((key : ℕ) (ds : List Datum) → q.row key ds ≡ row key (length ds) (folded (map (λ d. part (said_by d)) ds))) → IgnoresOrder q
  ignores_order q row is key ds es h = is key ds ∙ (λ i. row key (same_number ds es h i) (same_fold ds es h i)) ∙ sym (is key es)
