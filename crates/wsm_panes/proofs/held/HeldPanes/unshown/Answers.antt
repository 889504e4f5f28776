use Rattle.std.proofs.Common.{List, ap, ◌∙◌}
use Rattle.std.specs.Prelude.{option_map}
use Rattle.std.specs.FinMap.{get, get-entries}
use Rattle.wsm_record.specs.declared.event.Value.{Value}
use Rattle.wsm_windows.specs.declared.place.Place.{Place}
use Rattle.wsm_semantics.specs.Summaries.{Pane}
use Rattle.wsm_panes.proofs.held.HeldPanes.unshown.Goals as goal

pub returns-in-Sessions : goal.returns-in-Sessions
returns-in-Sessions c =
    let panes = c.in-Sessions.list.panes in
    rw (← c.self.view_is, c.in-Sessions.is)
    (c.unshown.ensures
    ∙ ap (λ (p : Place). option_map (λ (h : Pane (List Value)). h.unshown) (get panes p)) c.rebuilt_place.ensures
    ∙ ap (option_map (λ (h : Pane (List Value)). h.unshown)) (get-entries panes c.args.place))

pub returns-in-Grid : goal.returns-in-Grid
returns-in-Grid c = rw (← c.self.view_is, c.in-Grid.is) (c.unshown-in-Grid.ensures ∙ ap (option_map (λ (h : Pane (List Value)). h.unshown)) (get-entries c.in-Grid.ring.panes c.args.place))
