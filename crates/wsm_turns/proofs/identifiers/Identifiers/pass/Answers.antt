use Rattle.std.proofs.Common.{◌≡◌, pos, refl, rules, to_z, w64}
use Rattle.std.proofs.lemmas.Int.{to_z-of_z}
use Rattle.wsm_turns.proofs.Remembering.{passes_of, recalls_here, remembers_noted}
use Rattle.wsm_turns.proofs.identifiers.Identifiers.pass.Goals as goal

pub returns : goal.returns
returns c = λ w memory h.
    let old = c.args.self.now in
    let at = to_z-of_z w64 c.args.mark c.ranges.mark in
    let here = recalls_here w c.args.mark _ old memory at h in
    let time : to_z w64 c.args.time ≡ pos c.args.time = search rules in
    passes_of w c.args.mark old _ c.args.identifier.now c.args.time memory c.pass.result h refl refl (c.pass.ensures.recalled memory here)
    c.pass.ensures.double
    (λ new later rises. remembers_noted w c.args.mark _ later old _ c.args.identifier.now c.args.time _ memory at time rises h refl refl (c.pass.ensures.noted memory here new))
