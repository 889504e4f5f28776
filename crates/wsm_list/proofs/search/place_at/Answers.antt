use Rattle.std.proofs.Common.{ap, ◌∙◌}
use Rattle.std.specs.Prelude.{option_map}
use Rattle.wsm_list.proofs.StoredEdits.{entry_is, has_entry}
use Rattle.wsm_list.proofs.search.place_at.Goals as goal

pub held_place-requires : goal.held_place-requires
held_place-requires c = has_entry _ _ c.requires.stored c.args.at c.get.result c.get.ensures.here

pub returns : goal.returns
returns c = ap (option_map (λ e. e.0)) (entry_is _ _ c.requires.stored c.args.at c.get.result c.get.ensures.here) ∙ c.held_place.ensures
