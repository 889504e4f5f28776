use Rattle.std.proofs.Common.{◌∙◌}
use Rattle.wsm_part_engines.proofs.opening.open_closed.Goals as goal

pub returns-clause-opens : goal.returns-clause-opens
returns-clause-opens c =
    let puts = c.put.ensures.put in
    record {
      kept = λ s is. let closed = c.requires.closed in absurd cc;
      opened = λ closed. (c.in_ok-engine.engine, puts.one, c.in_ok-engine.ensures);
      others = λ other ne. puts.others other ne ∙ c.make_room.ensures.same other;
    }
