use Rattle.std.proofs.Common.{arith}
use Rattle.wsm_bytecode.proofs.Reader.{spelled_so, read_so}
use Rattle.wsm_bytecode.proofs.reading.decode.Goals as goal

pub returns-clause-found : goal.returns-clause-found
returns-clause-found c = spelled_so c.args.bytes.now c.all.result (λ i. omega (arith, c.type_inv.bytes i)) c.all.ensures

pub returns-clause-only : goal.returns-clause-only
returns-clause-only c = read_so c.args.bytes.now c.all.result c.all.ensures
