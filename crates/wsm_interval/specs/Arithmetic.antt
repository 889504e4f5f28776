-- Arithmetic on two numbers.
use Rattle.std.specs.Prelude.{ℤ, ◌+ℤ◌, ◌-ℤ◌, ◌*ℤ◌, int_div, int_rem}
use Rattle.wsm_interval.specs.declared.arithmetic.Arithmetic.{Arithmetic}
use Rattle.wsm_interval.specs.declared.arithmetic.Arithmetic.TheVariants.{Add, Sub, Mul, Div, Rem}

-- of x and y
abbrev pub result_of : Arithmetic → ℤ → ℤ → ℤ
result_of Add x y = x +ℤ y
result_of Sub x y = x -ℤ y
result_of Mul x y = x *ℤ y
result_of Div x y = int_div x y
result_of Rem x y = int_rem x y
