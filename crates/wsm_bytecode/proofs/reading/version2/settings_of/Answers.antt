use Rattle.std.proofs.Common.{rules, refl}
use Rattle.std.specs.Prelude.{FitsSigned}
use Rattle.std.specs.Int.{w64}
use Rattle.std.proofs.lemmas.Int.{to_z-of_z}
use Rattle.wsm_bytecode.specs.Version2.{settings_at}
use Rattle.wsm_bytecode.proofs.reading.version2.settings_of.Goals as goal

pub returns : goal.returns
unfolding settings_at
returns c =
    let early : FitsSigned w64 c.in_ok-shown.shown.early = search rules in
    let late : FitsSigned w64 c.in_ok-shown.shown.late = search rules in
    simp to_z-of_z (rw (c.in_ok-from_window.ensures, c.in_ok-sources.ensures, c.in_ok-shape.ensures, c.in_ok-shown.ensures, c.of.ensures) refl)
