use Rattle.std.proofs.Common.{◌∙◌, ap, w64}
use Rattle.std.proofs.lemmas.Int.{to_z-of_z}
use Rattle.wsm_doubles.specs.Entries.{Tabled}
use Rattle.wsm_doubles.specs.Memory.{Kept, live}
use Rattle.wsm_doubles.proofs.Forgotten.{noted}
use Rattle.wsm_doubles.proofs.doubles.Doubles.pass.Goals as goal

pub returns-clause-noted : goal.returns-clause-noted
returns-clause-noted c = λ memory r _.
    noted c.args.clock.now c.args.shape.now c.args.mark _ c.args.self.now _ c.make_room.new.table.entries memory c.args.identifier.now c.args.time _
    (to_z-of_z w64 c.args.mark c.ranges.mark) (to_z-of_z w64 c.args.time c.ranges.time) r
    (λ later rises. c.make_room.ensures.live later rises ∙ ap (λ (k : Kept). live c.args.clock.now c.args.shape.now later k.entries) c.self.view_is)
    (ap (λ (t : Tabled). t.entries) c.in_ok-push.ensures.added)
