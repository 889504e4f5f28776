use Rattle.std.proofs.Common.{ap, get_or, ◌∙◌}
use Rattle.std.proofs.lemmas.Option.{slice_get-get_or}
use Rattle.std.specs.Prelude.{option_map}
use Rattle.wsm_list.proofs.StoredEdits.{entry_is, has_entry}
use Rattle.wsm_list.proofs.search.place_of.Goals as goal

pub held_place-requires : goal.held_place-requires
held_place-requires c = let numbers = c.args.numbers.now in has_entry _ _ c.requires.stored c.args.at (get_or numbers c.args.at 0) (slice_get-get_or numbers c.args.at 0 c.requires.within)

pub returns : goal.returns
returns c =
    let numbers = c.args.numbers.now in
    ap (option_map (λ e. e.0)) (entry_is _ _ c.requires.stored c.args.at (get_or numbers c.args.at 0) (slice_get-get_or numbers c.args.at 0 c.requires.within)) ∙ c.held_place.ensures
