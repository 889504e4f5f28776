use Rattle.std.proofs.Common.{arith}
use Rattle.wsm_sums.proofs.Slices.{sixteen_left}
use Rattle.wsm_sums.proofs.crc.rest_behind_sixteen.Goals as goal

pub returns : goal.returns
returns c =
    sixteen_left c.args.rest c.args.bytes.now c.args.at c.from_le_bytes.result
    c.lowest_byte.result c.lowest_byte-2.result c.lowest_byte-3.result c.lowest_byte-4.result c.rest_of_twelve.result
    (omega arith) c.requires (λ n. omega (arith, c.type_inv.bytes n)) c.rest_of_twelve.ensures c.from_le_bytes.ensures
    c.lowest_byte.ensures.value c.lowest_byte-2.ensures.value c.lowest_byte-3.ensures.value c.lowest_byte-4.ensures.value
