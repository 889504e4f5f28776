use Rattle.std.proofs.Common.{◌≡◌, true, take}
use Rattle.std.specs.List.{list_all}
use Rattle.wsm_csv.specs.Lines.{is_a_number}
use Rattle.wsm_csv.proofs.few_numbers.count_numbers.Given as goal

abbrev pub invariant-loop-place : goal.invariant-loop-place
invariant-loop-place l = list_all is_a_number (take l.place l.columns) ≡ true
