use Rattle.std.proofs.Common.{take, arith, length-take-le}
use Rattle.wsm_replace.proofs.Kept.{kept, room_kept}
use Rattle.wsm_replace.proofs.lines.WholeLines.has_lines.Goals as goal

pub returns-in-Ok-clause-kept : goal.returns-in-Ok-clause-kept
returns-in-Ok-clause-kept g c =
    kept g.I.Read.remaining c.args.self.now c.read_on.new.self c.take.new.self _ c.requires c.read_on.ensures.lines c.read_on.ensures.begun c.in_ok-count.ensures.read c.in-Ok.ensures.taken c.in-Ok.ensures.same

pub returns-in-Ok-clause-room : goal.returns-in-Ok-clause-room
returns-in-Ok-clause-room g c =
    let chunk = c.read_on.new.self.chunk.items in
    let long = length-take-le c.in_ok-count.count chunk c.in_ok-count.ensures.bound in
    room_kept c.args.self.now c.read_on.new.self c.take.new.self (take c.in_ok-count.count chunk) c.requires c.read_on.ensures.lines c.read_on.ensures.begun c.in-Ok.ensures.taken c.in-Ok.ensures.same.0
    (omega (arith, long, c.take.ensures.left.0, c.saturating_sub-self.ensures, c.read_on.ensures.left, c.in_ok-count.ensures.bound, c.in_ok-count.ensures.chunk))
