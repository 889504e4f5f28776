-- How many accumulators a program has.
use Rattle.std.proofs.Common.{◌≡◌, ◌≤◌, true, length}
use Rattle.std.specs.Prelude.{nat_le}
use Rattle.std.proofs.lemmas.Bool.{and_parts, leb-true}
use Rattle.wsm_record.specs.Schema.{is_schema}
use Rattle.wsm_program.specs.Program.{Header, Program, is_program, is_header, is_clock, is_firing, is_row}
use Rattle.wsm_program.proofs.Lawful.{program_header}

of_header : (h : Header) → is_header h ≡ true → length h.kinds ≤ 16
unfolding is_header
of_header h e =
    let row = (and_parts (is_firing h) _ ((and_parts (is_clock h) _ ((and_parts (is_schema h.schema) _ e).1)).1)).1 in
    leb-true _ _ ((and_parts (nat_le (length h.kinds) 16) _ ((and_parts (is_row h) _ row).0)).0)

-- at most 16
pub few_kinds : (p : Program) → is_program p ≡ true → length p.header.kinds ≤ 16
few_kinds p e = of_header p.header (program_header p e)
