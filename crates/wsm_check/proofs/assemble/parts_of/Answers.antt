use Rattle.std.proofs.Common.{refl}
use Rattle.wsm_check.proofs.assemble.parts_of.Goals as goal

-- the clauses are handed on as they are, and the terms are those of the expressions
pub returns : goal.returns
returns c =
    let r = c.requires.resolved in
    rw (c.requires.schema, r.condition, r.foldings, r.types, r.columns, r.having) refl
