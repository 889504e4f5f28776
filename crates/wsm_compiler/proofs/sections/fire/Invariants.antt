use Rattle.std.proofs.Common.{◌≡◌, ◌+◌, ◌≤◌, ◌++◌, length, map, drop}
use Rattle.std.specs.Prelude.{option_map}
use Rattle.wsm_check.specs.Seen.{seen_term}
use Rattle.wsm_compiler.specs.TermCode.{firing_code, firing_size}
use Rattle.wsm_compiler.proofs.sections.fire.Given as goal

-- the code so far goes on to the whole section, and there is room for the rest
abbrev pub invariant-loop-column : goal.invariant-loop-column
invariant-loop-column l = record {
  goes_on : l.code.items ++ firing_code (length l.code.items) (option_map seen_term l.fn.having) (map seen_term (drop l.column-index l.columns)) ≡ firing_code 0 (option_map seen_term l.fn.having) (map seen_term l.columns);
  room : length l.code.items + firing_size (option_map seen_term l.fn.having) (map seen_term (drop l.column-index l.columns)) ≤ 1000;
}
