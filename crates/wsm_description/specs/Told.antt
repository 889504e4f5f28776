-- Refusals as they are told.
use Rattle.std.specs.Prelude.{ℕ, ◌++◌, List, codes}
use Rattle.std.specs.Fmt.{decimal}
use Rattle.wsm_description.specs.declared.place.Position.{Position}
use Rattle.wsm_description.specs.declared.refusal.SourceFault.{SourceFault}
use Rattle.wsm_description.specs.declared.refusal.SourceFault.TheVariants.{NotToml, UnknownKey, MissingKey, BadType, BadRange, BadWord, Conflict, UnknownField, WrongType, UnknownName, BadLine}
use Rattle.wsm_description.specs.declared.refusal.Refusal.{Refusal}
use Rattle.wsm_description.specs.declared.refusal.Refusal.TheVariants as refusal
use Rattle.wsm_description.specs.declared.told.SourceRefusal.{SourceRefusal}
use Rattle.wsm_description.specs.declared.told.SourceRefusal.TheVariants as told_variants

-- the refusal without its place
abbrev pub told : SourceRefusal → Refusal
told (told_variants.Fault refused) = refusal.Fault refused.fault refused.path
told told_variants.Memory = refusal.Memory

abbrev pub fault_text : SourceFault → List ℕ
fault_text NotToml = codes "L1 NotToml"
fault_text UnknownKey = codes "L2 UnknownKey"
fault_text MissingKey = codes "L3 MissingKey"
fault_text BadType = codes "L4 BadType"
fault_text BadRange = codes "L5 BadRange"
fault_text BadWord = codes "L6 BadWord"
fault_text Conflict = codes "L7 Conflict"
fault_text UnknownField = codes "L8 UnknownField"
fault_text WrongType = codes "L9 WrongType"
fault_text UnknownName = codes "L10 UnknownName"
fault_text (BadLine line) = codes "L11 BadLine " ++ decimal line

abbrev pub place_text : Position → List ℕ
place_text place = decimal place.line ++ codes ":" ++ decimal place.column
