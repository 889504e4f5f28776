-- A version has its number alone.
use Rattle.std.proofs.Common.{◌≡◌, ℕ, ◌<◌, Bool, true, false, cond, Some, refl, ap, ◌∙◌, lit<}
use Rattle.std.specs.Prelude.{◌==◌}
use Rattle.std.proofs.lemmas.Bool.{eqb-true}
use Rattle.wsm_bytecode.specs.declared.version.Version.{Version}
use Rattle.wsm_bytecode.specs.declared.version.Version.TheVariants.{One, Two}
use Rattle.wsm_bytecode.specs.Versions.{version_number, version_of_number}

pub number_is_byte : (v : Version) → version_number v < 256
number_is_byte One = lit< tt
number_is_byte Two = lit< tt

pub of_number_again : (v : Version) → version_of_number (version_number v) ≡ Some v
of_number_again One = refl
of_number_again Two = refl

-- one test of a chain
choose : {A P : Type 0} (b : Bool) (p q r : A) → cond b p q ≡ r → (b ≡ true → p ≡ r → P) → (b ≡ false → q ≡ r → P) → P
choose true p q r e f g = f refl e
choose false p q r e f g = g refl e

pub of_number_has_number : (n : ℕ) (v : Version) → version_of_number n ≡ Some v → n ≡ version_number v
of_number_has_number n v e =
    choose (n == 1) _ _ _ e (λ t r. (let same : One ≡ v = cc in eqb-true n 1 t ∙ ap version_number same)) (λ _ e1.
    choose (n == 2) _ _ _ e1 (λ t r. (let same : Two ≡ v = cc in eqb-true n 2 t ∙ ap version_number same)) (λ _ r. absurd cc))
