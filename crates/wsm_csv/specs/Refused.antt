-- Why a row is not read.
use Rattle.std.specs.Prelude.{⊤}
use Rattle.wsm_record.specs.declared.event.RowFault.{RowFault}
use Rattle.wsm_csv.specs.declared.row.RowRefusal.{RowRefusal}
use Rattle.wsm_csv.specs.declared.row.RowRefusal.TheVariants.{Fault, Memory}

-- a fact of the fault, if a refusal is one
abbrev pub IfFault : RowRefusal → (RowFault → Type 0) → Type 0
IfFault (Fault f) P = P f
IfFault Memory P = ⊤
