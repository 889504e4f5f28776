use Rattle.std.proofs.Common.{arith}
use Rattle.wsm_record.specs.Fields.{kept_of}
use Rattle.wsm_record.proofs.Schemas.{has_keys}
use Rattle.wsm_record.proofs.schema.Schema.key_count.Goals as goal

pub returns-clause-some : goal.returns-clause-some
returns-clause-some c =
    let some = has_keys (kept_of c.self.inside.keys c.self.inside.fields.items c.self.inside.sources) c.self.invariant in
    omega (arith, some, c.len.ensures.len)
