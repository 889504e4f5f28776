use Rattle.std.proofs.Common.{◌≡◌, ◌+◌, ◌-◌, ◌*◌, ◌≤◌, ◌++◌, length, map, drop}
use Rattle.wsm_csv.specs.Lines.{cells_text, number_text}
use Rattle.wsm_csv.proofs.few_numbers.write_numbers.Given as goal

-- those behind were written
abbrev pub invariant-loop-place : goal.invariant-loop-place
invariant-loop-place l = record {
  same : length l.cells ≡ length l.fn.cells;
  room : l.end ≤ l.start + (length l.numbers - l.place) * 21;
  begins : l.start ≤ l.end;
  written : drop l.start l.cells ≡ cells_text (map number_text (drop l.place l.numbers)) ++ drop l.end l.fn.cells;
}
