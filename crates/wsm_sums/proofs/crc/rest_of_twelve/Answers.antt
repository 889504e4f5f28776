use Rattle.std.proofs.Common.{arith}
use Rattle.wsm_sums.proofs.Slices.{twelve_left}
use Rattle.wsm_sums.proofs.crc.rest_of_twelve.Goals as goal

pub returns : goal.returns
returns c = twelve_left c.args.bytes.now c.args.at c.rest_of_eight.result c.requires (λ n. omega (arith, c.type_inv.bytes n)) c.rest_of_eight.ensures
