use Rattle.std.proofs.Common.{◌∙◌, ℤ, ap, w64}
use Rattle.std.proofs.lemmas.Int.{to_z-of_z}
use Rattle.wsm_doubles.specs.Memory.{Memory, live}
use Rattle.wsm_doubles.proofs.Forgotten.{live-live}
use Rattle.wsm_doubles.proofs.doubles.make_room.Goals as goal

pub returns-in_ok-forget-clause-live : goal.returns-in_ok-forget-clause-live
returns-in_ok-forget-clause-live c = λ later rises.
    let entries = c.args.table.now.entries in
    ap (λ (m : Memory). live c.args.clock.now c.args.shape.now later m) c.in_ok-forget.ensures.entries
    ∙ ap (λ (w : ℤ). live c.args.clock.now c.args.shape.now later (live c.args.clock.now c.args.shape.now w entries)) (to_z-of_z w64 c.args.mark c.ranges.mark)
    ∙ live-live c.args.clock.now c.args.shape.now c.args.mark later rises entries
