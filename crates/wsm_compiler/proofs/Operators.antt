-- The instruction of an operator computes with two numbers, or compares.
use Rattle.std.proofs.Common.{arith}
use Rattle.wsm_interval.specs.declared.arithmetic.Arithmetic.{Arithmetic}
use Rattle.wsm_interval.specs.declared.comparison.Comparison.{Comparison}
use Rattle.wsm_program.specs.declared.instr.Instr.{Instr}
use Rattle.wsm_program.specs.declared.instr.Instr.TheVariants as instr
use Rattle.wsm_query.specs.declared.expr.Op.{Op}
use Rattle.wsm_compiler.specs.TermCode.{instruction}

-- what holds of all such instructions holds of an operator's
pub of_operator : (Holds : Instr → Type 0) → ((a : Arithmetic) → Holds (instr.Compute a)) → ((c : Comparison) → Holds (instr.Compare c)) → (op : Op) → Holds (instruction op)
of_operator Holds computes compares op = grind arith
