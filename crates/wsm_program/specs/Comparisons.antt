-- The table of comparisons: the number that stands for each in the bytes and the texts of programs.
use Rattle.std.specs.Prelude.{ℕ, List, [], ◌∷◌, Option, ◌==◌}
use Rattle.std.specs.List.{find}
use Rattle.wsm_interval.specs.declared.Comparison.{Comparison}
use Rattle.wsm_interval.specs.declared.Comparison.TheVariants.{Eq, Ne, Lt, Le, Gt, Ge}

abbrev pub comparison_number : Comparison → ℕ
comparison_number Eq = 0
comparison_number Ne = 1
comparison_number Lt = 2
comparison_number Le = 3
comparison_number Gt = 4
comparison_number Ge = 5

-- in the order of their numbers
abbrev pub comparisons : List Comparison
comparisons = Eq ∷ Ne ∷ Lt ∷ Le ∷ Gt ∷ Ge ∷ []

unfoldable pub comparison_of_number : ℕ → Option Comparison
comparison_of_number n = find (λ o. comparison_number o == n) comparisons
