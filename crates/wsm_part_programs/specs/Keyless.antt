-- A program that reads no key: what it selects, folds and writes is the same of any key.
use Rattle.std.specs.Prelude.{◌≡◌, Bool, true, false, List, not}
use Rattle.std.specs.List.{list_all}
use Rattle.wsm_program.specs.declared.instr.Instr.{Instr}
use Rattle.wsm_program.specs.declared.instr.Instr.TheVariants.{Key}
use Rattle.wsm_program.specs.Program.{Program}

abbrev pub reads_key : Instr → Bool
reads_key Key = true
reads_key _ = false

abbrev pub is_keyless : List Instr → Bool
is_keyless code = list_all (λ i. not (reads_key i)) code

-- none of its sections pushes the key
pub record IsKeyless (p : Program) : Type 0 where
  pub selection : is_keyless p.selection ≡ true
  pub update : is_keyless p.update ≡ true
  pub fire : is_keyless p.fire ≡ true
