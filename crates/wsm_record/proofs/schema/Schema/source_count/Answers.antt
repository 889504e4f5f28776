use Rattle.std.proofs.Common.{arith}
use Rattle.wsm_record.specs.Fields.{kept_of}
use Rattle.wsm_record.proofs.Schemas.{few_sources}
use Rattle.wsm_record.proofs.schema.Schema.source_count.Goals as goal

pub returns-else-len-eq0-clause-most : goal.returns-else-len-eq0-clause-most
returns-else-len-eq0-clause-most c =
    let few = few_sources (kept_of c.self.inside.keys c.self.inside.fields.items c.self.inside.sources) c.self.invariant in
    omega (arith, few, c.len-else-len-eq0.ensures.len)
