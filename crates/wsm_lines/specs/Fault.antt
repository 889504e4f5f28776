-- Why a line says no event, and the words that tell it.
use Rattle.std.specs.Prelude.{ℕ, List, Option, Some, None, Result, Ok, Err, codes, ⊤}
use Rattle.wsm_lines.specs.declared.fault.LineFault.{LineFault}
use Rattle.wsm_lines.specs.declared.fault.LineFault.TheVariants.{TooLong, NotUtf8, NotJson, NotAccess, NotCsv, Header, BadHeader, CellCount, NotRow, NoKey, BadKey, NoTime, BadTime, NoField, BadWhole, BadDecimal, BadBool, BadEnum, BadIdentifier}
use Rattle.wsm_lines.specs.declared.fault.LineRefusal.{LineRefusal}
use Rattle.wsm_lines.specs.declared.fault.LineRefusal.TheVariants.{Fault, Memory}

-- the word that tells a fault: its own name
abbrev pub fault_word : LineFault → List ℕ
fault_word TooLong = codes "TooLong"
fault_word NotUtf8 = codes "NotUtf8"
fault_word NotJson = codes "NotJson"
fault_word NotAccess = codes "NotAccess"
fault_word NotCsv = codes "NotCsv"
fault_word Header = codes "Header"
fault_word BadHeader = codes "BadHeader"
fault_word CellCount = codes "CellCount"
fault_word NotRow = codes "NotRow"
fault_word NoKey = codes "NoKey"
fault_word BadKey = codes "BadKey"
fault_word NoTime = codes "NoTime"
fault_word BadTime = codes "BadTime"
fault_word NoField = codes "NoField"
fault_word BadWhole = codes "BadWhole"
fault_word BadDecimal = codes "BadDecimal"
fault_word BadBool = codes "BadBool"
fault_word BadEnum = codes "BadEnum"
fault_word BadIdentifier = codes "BadIdentifier"

-- a fact of the fault, if a refusal is one
abbrev pub IfFault : LineRefusal → (LineFault → Type 0) → Type 0
IfFault (Fault f) P = P f
IfFault Memory P = ⊤

-- what reads on where there was no fault
abbrev pub on_ok : {A B : Type 0} → Result A LineFault → (A → Result B LineFault) → Result B LineFault
on_ok (Ok a) f = f a
on_ok (Err why) f = Err why

-- what there is, or the fault
abbrev pub or_fault : {A : Type 0} → LineFault → Option A → Result A LineFault
or_fault why None = Err why
or_fault why (Some a) = Ok a

-- what there is, if there was no fault
abbrev pub or_none : {A : Type 0} → Result (Option A) LineFault → Option A
or_none (Err why) = None
or_none (Ok found) = found
