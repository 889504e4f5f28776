use Rattle.std.proofs.Common.{arith}
use Rattle.wsm_program.specs.View.{header_of}
use Rattle.wsm_rules.proofs.Lawful.{lawful_seen}
use Rattle.wsm_verifier.proofs.places.accumulated.Goals as goal

pub ranges_up_to-requires-clause-few : goal.ranges_up_to-requires-clause-few
ranges_up_to-requires-clause-few c =
    let few = (lawful_seen c.program.result.now (header_of c.header.result.now) c.header.ensures.header c.header.ensures.lawful).kinds in
    omega (arith, few, c.len-count.ensures)
