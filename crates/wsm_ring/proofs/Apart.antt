-- Places that are apart.
use Rattle.std.proofs.Common.{◌≡◌, ◌≢◌, ℤ, SFits, w64, to_z, of_z, false, sym, ap, ◌∙◌, inl, inr}
use Rattle.std.specs.declared.cmp.Ordering.TheVariants.{Less, Equal}
use Rattle.std.specs.Ordering.{eq_by_cmp}
use Rattle.std.specs.Cmp.{tied_itself}
use Rattle.std.proofs.lemmas.Int.{to_z-of_z}
use Rattle.std.proofs.lemmas.Bool.{cases_Bool}
use Rattle.wsm_windows.proofs.Places.{places_total, tie_is}
use Rattle.wsm_windows.specs.declared.place.Place.{Place}
use Rattle.wsm_windows.specs.Places.{place_cmp}

-- times whose words are the same are the same
pub same_time : (a b : ℤ) → SFits w64 a → SFits w64 b → of_z w64 a ≡ of_z w64 b → a ≡ b
same_time a b fits other is = sym (to_z-of_z w64 a fits) ∙ ap (to_z w64) is ∙ to_z-of_z w64 b other

apart : (p q : Place) → place_cmp p q ≡ Less → q ≢ p
apart p q less same = let tie : Less ≡ Equal = sym less ∙ rw same (tied_itself places_total p) in cc

pub apart_place : (p q : Place) → p ≢ q → eq_by_cmp place_cmp p q ≡ false
apart_place p q other = elim (cases_Bool (eq_by_cmp place_cmp p q)) [
  | inl tie ↦ absurd (other (tie_is p q tie))
  | inr apart ↦ apart
]
