-- Refusals as they are printed.
use Rattle.std.specs.Prelude.{ℕ, ◌++◌, List, codes}
use Rattle.std.specs.Fmt.{decimal}
use Rattle.wsm_check.specs.declared.refusal.CheckFault.{CheckFault}
use Rattle.wsm_check.specs.declared.refusal.CheckFault.TheVariants.{UnknownName, Duplicate, FieldOutsideAggregate, AggregateNested, AggregateInWhere, Limit, Exceeds, StreamNeedsAccumulating, SessionLateness}
use Rattle.wsm_check.specs.declared.refusal.CheckFault.TheVariants as fault
use Rattle.wsm_check.specs.declared.refusal.Part.{Part}
use Rattle.wsm_check.specs.declared.refusal.Part.TheVariants as part
use Rattle.wsm_check.specs.declared.refusal.CheckRefusal.{CheckRefusal}
use Rattle.wsm_check.specs.declared.refusal.CheckRefusal.TheVariants.{Fault, Memory}

abbrev pub fault_text : CheckFault → List ℕ
fault_text UnknownName = codes "C1 UnknownName"
fault_text fault.Type = codes "C2 Type"
fault_text Duplicate = codes "C3 Duplicate"
fault_text FieldOutsideAggregate = codes "C4 FieldOutsideAggregate"
fault_text AggregateNested = codes "C5 AggregateNested"
fault_text AggregateInWhere = codes "C6 AggregateInWhere"
fault_text Limit = codes "C7 Limit"
fault_text (Exceeds limit counted allowed) = codes "C7 Limit"
fault_text StreamNeedsAccumulating = codes "C8 StreamNeedsAccumulating"
fault_text SessionLateness = codes "C10 SessionLateness"

abbrev pub part_text : Part → List ℕ
part_text part.Keys = codes "keys"
part_text (part.Field n) = codes "field " ++ decimal n
part_text part.Sources = codes "sources"
part_text part.Clock = codes "clock"
part_text part.Budget = codes "budget"
part_text part.Window = codes "window"
part_text part.Trigger = codes "trigger"
part_text part.Emit = codes "emit"
part_text part.Where = codes "where"
part_text (part.Column n) = codes "column " ++ decimal n
part_text part.Having = codes "having"
part_text part.Code = codes "code"

abbrev pub refusal_text : CheckRefusal → List ℕ
refusal_text (Fault f p) = fault_text f ++ codes " in " ++ part_text p
refusal_text Memory = codes "out of memory"
