use Rattle.std.proofs.Common.{◌≡◌, ◌+◌, ◌++◌, length}
use Rattle.wsm_numbered.specs.Numbered.{lines_in, numbered, sum_over}
use Rattle.wsm_numbered.proofs.numbering.Numbering.add.Given as goal

-- what was added, with the lines that are left
abbrev pub invariant-loop-rest : goal.invariant-loop-rest
invariant-loop-rest l = record {
  text : l.out.items ++ numbered l.self.count l.self.sum (lines_in l.rest) ≡ l.fn.out.items ++ numbered l.fn.self.count l.fn.self.sum (lines_in l.text);
  count : l.self.count + length (lines_in l.rest) ≡ l.fn.self.count + length (lines_in l.text);
  sum : sum_over l.self.sum (lines_in l.rest) ≡ sum_over l.fn.self.sum (lines_in l.text);
}

abbrev pub decreases-loop-rest : goal.decreases-loop-rest
decreases-loop-rest l = length l.rest
