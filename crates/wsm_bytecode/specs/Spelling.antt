-- The spellings of a program as bytes: one in version 2, and one in version 1 where it has no test of a field.
use Rattle.std.specs.Prelude.{◌≡◌, ℕ, Bool, ◌&&◌, List, ◌++◌, IsTrue}
use Rattle.std.specs.List.{list_all}
use Rattle.wsm_program.specs.declared.instr.Instr.{Instr}
use Rattle.wsm_program.specs.Program.{Header, Program}
use Rattle.wsm_bytecode.specs.declared.version.Version.{Version}
use Rattle.wsm_bytecode.specs.declared.version.Version.TheVariants.{One, Two}
use Rattle.wsm_bytecode.specs.Parts.{Settings, settings_in, byte, magic, names, fields, times, kinds, columns, budget, code}
use Rattle.wsm_bytecode.specs.Versions.{version_number}
use Rattle.wsm_bytecode.specs.Version1 as first
use Rattle.wsm_bytecode.specs.Version2 as second

abbrev pub settings : Version → Settings → List ℕ
settings One s = first.settings s
settings Two s = second.settings s

unfoldable pub header : Version → Header → List ℕ
header v h = names h.schema.keys ++ fields h.schema.fields ++ times h.clock ++ settings v (settings_in h) ++ kinds h.kinds ++ columns h.columns ++ budget h.budget

unfoldable pub spelling_in : Version → Program → List ℕ
spelling_in v p = magic ++ byte (version_number v) ++ header v p.header ++ code p.selection ++ code p.update ++ code p.fire

-- an instruction of the version
abbrev pub has : Version → Instr → Bool
has One i = first.has i
has Two i = second.has i

-- a version spells the programs of its instructions alone
unfoldable pub spells : Version → Program → Bool
spells v p = list_all (has v) p.selection && (list_all (has v) p.update && list_all (has v) p.fire)

-- the bytes are the program's spelling in one of the versions
pub record IsSpelling (p : Program) (bytes : List ℕ) : Type 0 where
  pub version : Version
  pub spells : IsTrue (spells version p)
  pub spelled : bytes ≡ spelling_in version p

-- the spelling that is written
unfoldable pub spelling : Program → List ℕ
spelling p = spelling_in Two p
