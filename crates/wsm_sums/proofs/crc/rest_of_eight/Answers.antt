use Rattle.std.proofs.Common.{arith}
use Rattle.wsm_sums.proofs.Slices.{eight_left}
use Rattle.wsm_sums.proofs.crc.rest_of_eight.Goals as goal

pub returns : goal.returns
returns c = eight_left c.args.bytes.now c.args.at c.requires (λ n. omega (arith, c.type_inv.bytes n))
