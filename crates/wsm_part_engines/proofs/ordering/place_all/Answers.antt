use Rattle.std.proofs.Common.{List, ◌++◌, ap, ◌∙◌}
use Rattle.wsm_part_engines.specs.declared.row_place.RowPlace.{RowPlace}
use Rattle.wsm_part_engines.specs.Ordered.{all_places, arranged}
use Rattle.wsm_part_engines.proofs.ordering.place_all.Goals as goal

pub returns-in-Ok-clause-placed : goal.returns-in-Ok-clause-placed
returns-in-Ok-clause-placed c =
    c.arrange.ensures ∙ ap arranged (c.in-Ok.ensures ∙ ap (λ (ps : List RowPlace). ps ++ all_places 0 c.args.slots.now) c.clear.ensures.items)
