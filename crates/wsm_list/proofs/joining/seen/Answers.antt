use Rattle.std.proofs.Common.{◌≡◌, true, sym, ap, subst, ◌∙◌}
use Rattle.std.specs.Option.{is_some}
use Rattle.std.specs.FinMap as map
use Rattle.wsm_windows.specs.declared.place.Place.{Place}
use Rattle.wsm_slots.specs.Walk.{place_found}
use Rattle.wsm_list.proofs.Spots.{is_found, place_is}
use Rattle.wsm_list.proofs.joining.seen.Goals as goal
use Rattle.wsm_list.proofs.joining.seen.Goals.{After-unwrap-spot}

-- the spot that was found is that of the place
found : (c : After-unwrap-spot) → c.unwrap-spot.result.place ≡ c.args.place
found c = place_is c.unwrap-spot.result c.args.place (map.get c.args.table.now.panes c.args.place) (ap place_found (sym c.unwrap-spot.ensures) ∙ c.find.ensures.place) c.requires

pub unwrap-spot-requires : goal.unwrap-spot-requires
unwrap-spot-requires c = is_found c.find.result c.args.place (map.get c.args.table.now.panes c.args.place) c.find.ensures.place c.requires

pub pane-requires : goal.pane-requires
pane-requires c = subst (λ (p : Place). is_some (map.get c.args.table.now.panes p) ≡ true) (sym (found (goal.at.pane-requires c).After-unwrap-spot)) c.requires

pub returns : goal.returns
returns c = ap (map.get c.args.table.now.panes) (sym (found (goal.at.returns c).After-unwrap-spot)) ∙ c.pane.ensures
