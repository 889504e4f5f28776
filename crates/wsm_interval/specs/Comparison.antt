-- Comparisons of two numbers.
use Rattle.std.specs.Prelude.{Bool, not, ℤ, int_le, int_lt}
use Rattle.std.specs.Ordering.{int_eq}
use Rattle.wsm_interval.specs.declared.comparison.Comparison.{Comparison}
use Rattle.wsm_interval.specs.declared.comparison.Comparison.TheVariants.{Eq, Ne, Lt, Le, Gt, Ge}

-- x compared with y
abbrev pub is_true : Comparison → ℤ → ℤ → Bool
is_true Eq x y = int_eq x y
is_true Ne x y = not (int_eq x y)
is_true Lt x y = int_lt x y
is_true Le x y = int_le x y
is_true Gt x y = int_lt y x
is_true Ge x y = int_le y x

-- true exactly where the other isn't
abbrev pub opposite : Comparison → Comparison
opposite Eq = Ne
opposite Ne = Eq
opposite Lt = Ge
opposite Le = Gt
opposite Gt = Le
opposite Ge = Lt
