use Rattle.std.proofs.Common.{sym, subst}
use Rattle.wsm_program.specs.Program.{Program}
use Rattle.wsm_doubles.specs.Memory.{Kept, Recalls}
use Rattle.wsm_turns.specs.Known.{Remembers}
use Rattle.wsm_intake.specs.Turns.{setting_by}
use Rattle.wsm_intake.proofs.saving.standing_behind.Goals as goal

pub returns-clause-identifiers : goal.returns-clause-identifiers
returns-clause-identifiers c = λ clocks mark memory recalls.
    let standing = c.args.standing in
    let at = subst (λ (m : Program). Recalls m.header.clock m.header.shape mark standing.known memory) (sym c.program.ensures) recalls in
    let known = subst (λ (k : Kept). Recalls c.program.result.now.header.clock c.program.result.now.header.shape mark k memory) (sym c.into_parts-taken.ensures.known) at in
    subst (λ (m : Program). Remembers (setting_by clocks m) mark c.resumed-identifiers.result memory) c.program.ensures (c.resumed-identifiers.ensures clocks mark memory known)
