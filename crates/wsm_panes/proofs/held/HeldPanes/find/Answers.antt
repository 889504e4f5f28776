use Rattle.std.proofs.Common.{ap, ◌∙◌}
use Rattle.std.specs.Prelude.{option_map}
use Rattle.std.specs.FinMap.{get, get-entries}
use Rattle.wsm_panes.proofs.held.HeldPanes.find.Goals as goal

pub returns-in-Sessions-clause-place : goal.returns-in-Sessions-clause-place
returns-in-Sessions-clause-place c =
    let panes = c.in-Sessions.list.panes in
    rw (← c.self.view_is, c.in-Sessions.is, c.rebuilt_found.ensures)
    (c.find.ensures.place ∙ ap (λ p. option_map (λ _. p) (get panes p)) c.rebuilt_place.ensures ∙ ap (option_map (λ _. c.args.place)) (get-entries panes c.args.place))

pub returns-in-Grid-clause-place : goal.returns-in-Grid-clause-place
returns-in-Grid-clause-place c = rw (← c.self.view_is, c.in-Grid.is) (c.find-in-Grid.ensures.place ∙ ap (option_map (λ _. c.args.place)) (get-entries c.in-Grid.ring.panes c.args.place))
