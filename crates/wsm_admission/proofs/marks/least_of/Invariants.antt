use Rattle.std.proofs.Common.{◌≡◌, take}
use Rattle.std.specs.List.{fold}
use Rattle.std.specs.Int.{int_min}
use Rattle.wsm_admission.proofs.marks.least_of.Given as goal

abbrev pub invariant-loop-mark : goal.invariant-loop-mark
invariant-loop-mark l = l.least ≡ fold int_min l.first (take l.mark-index l.others)
