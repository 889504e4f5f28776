-- What an instruction takes from the stack.
use Rattle.std.specs.Prelude.{ℕ}
use Rattle.wsm_interval.specs.declared.Comparison.{Comparison}
use Rattle.wsm_interval.specs.declared.Comparison.TheVariants.{Eq, Ne, Lt, Le, Gt, Ge}
use Rattle.wsm_program.specs.declared.operands.Operands.{Operands}
use Rattle.wsm_program.specs.declared.operands.Operands.TheVariants.{Nothing, One, Numbers, Alike}

-- a comparison takes
abbrev pub compared : Comparison → Operands
compared Eq = Alike
compared Ne = Alike
compared Lt = Numbers
compared Le = Numbers
compared Gt = Numbers
compared Ge = Numbers

-- how many they are
abbrev pub how_many : Operands → ℕ
how_many Nothing = 0
how_many (One t) = 1
how_many Numbers = 2
how_many Alike = 2
