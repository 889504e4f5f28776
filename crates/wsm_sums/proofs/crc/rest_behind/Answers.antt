use Rattle.std.proofs.Common.{◌∙◌, ◌/◌, ap, arith, bit_xor, get_or, []}
use Rattle.wsm_sums.specs.declared.table.TheConstants.{NEAR}
use Rattle.wsm_sums.proofs.Slices.{step_by_table}
use Rattle.wsm_sums.proofs.crc.rest_behind.Goals as goal

pub returns : goal.returns
returns c =
    ap (λ i. bit_xor (get_or (get_or NEAR 0 []) i 0) (c.args.rest / 256)) c.lowest_byte.ensures.value ∙ step_by_table c.args.rest c.args.byte (omega arith)
