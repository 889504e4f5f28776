use Rattle.std.proofs.Common.{sym, subst}
use Rattle.wsm_doubles.specs.Memory.{Kept, Recalls}
use Rattle.wsm_keyed_intake.proofs.saving.standing_behind.Goals as goal

pub returns-clause-identifiers : goal.returns-clause-identifiers
returns-clause-identifiers c = λ clocks all mark memory recalls.
    let m = c.args.told.parts.program in
    c.resumed-identifiers.ensures clocks all mark memory
    (subst (λ (k : Kept). Recalls m.header.clock m.header.shape mark k memory) (sym c.into_parts-taken.ensures.known) recalls)
