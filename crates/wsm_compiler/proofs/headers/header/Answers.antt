use Rattle.std.proofs.Common.{rules, refl}
use Rattle.std.proofs.lemmas.Int.{to_z-of_z}
use Rattle.std.specs.Prelude.{FitsSigned}
use Rattle.std.specs.Int.{w64}
use Rattle.wsm_compiler.proofs.headers.header.Goals as goal

-- the numbers are passed on as they are
pub returns : goal.returns
returns c =
    let early : FitsSigned w64 c.every.result = search rules in
    let late : FitsSigned w64 c.every-2.result = search rules in
    simp to_z-of_z
    (rw (c.every.ensures, c.every-2.ensures, c.in_ok-kinds.ensures, c.deref.ensures.value) refl)
