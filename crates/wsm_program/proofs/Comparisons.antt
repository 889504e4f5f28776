-- A comparison has its number alone.
use Rattle.std.proofs.Common.{◌≡◌, ℕ, ◌<◌, Some, refl, lit<}
use Rattle.wsm_interval.specs.declared.Comparison.{Comparison}
use Rattle.wsm_interval.specs.declared.Comparison.TheVariants.{Eq}
use Rattle.wsm_program.specs.Comparisons.{comparison_number, comparisons, comparison_of_number}
use Rattle.wsm_program.proofs.Numbered.{found_has_number}

pub number_is_byte : (o : Comparison) → comparison_number o < 256
number_is_byte Eq = lit< tt
number_is_byte o = lit< tt

pub of_number_again : (o : Comparison) → comparison_of_number (comparison_number o) ≡ Some o
unfolding comparison_of_number
of_number_again Eq = refl
of_number_again o = refl

pub of_number_has_number : (n : ℕ) (o : Comparison) → comparison_of_number n ≡ Some o → n ≡ comparison_number o
unfolding comparison_of_number
of_number_has_number n o e = found_has_number comparison_number n o comparisons e
