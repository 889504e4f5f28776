use Rattle.std.proofs.Common.{◌≡◌, ◌+◌, ◌≤◌, ◌++◌, length, map, drop}
use Rattle.wsm_check.specs.Seen.{seen_folding}
use Rattle.wsm_compiler.specs.TermCode.{foldings_code, foldings_size}
use Rattle.wsm_compiler.proofs.sections.update.Given as goal

-- the code so far goes on to the whole section, and there is room for the rest
abbrev pub invariant-loop-number : goal.invariant-loop-number
invariant-loop-number l = record {
  goes_on : l.code.items ++ foldings_code (length l.code.items) l.number (map seen_folding (drop l.number l.foldings)) ≡ foldings_code 0 0 (map seen_folding l.foldings);
  room : length l.code.items + foldings_size (map seen_folding (drop l.number l.foldings)) ≤ 1000;
}
