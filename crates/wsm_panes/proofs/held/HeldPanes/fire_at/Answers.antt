use Rattle.std.proofs.Common.{ap, sym, ◌∙◌}
use Rattle.std.specs.Prelude.{option_map}
use Rattle.std.specs.Option.{is_some}
use Rattle.std.specs.FinMap as map
use Rattle.std.specs.FinMap.{entries-insert, entries_sorted, get-entries}
use Rattle.wsm_windows.proofs.Places.{places_total}
use Rattle.wsm_semantics.proofs.Each.{as_true}
use Rattle.wsm_slots.specs.Panes.{once_fired, windows_of_key}
use Rattle.wsm_panes.proofs.Enters.{keys_alike}
use Rattle.wsm_slots.proofs.Keys.{windows_replaced}
use Rattle.wsm_list.proofs.Spots.{none_there}
use Rattle.wsm_panes.proofs.held.HeldPanes.fire_at.Goals as goal
use Rattle.wsm_panes.proofs.held.HeldPanes.fire_at.Goals.{in-Sessions, in-Grid}

pub fire-requires-clause-there : goal.fire-requires-clause-there
fire-requires-clause-there c = rw c.rebuilt.ensures (ap is_some (get-entries c.in-Sessions.list.panes c.args.spot.place) ∙ (rw (← c.self.view_is, c.in-Sessions.is) at c.requires.held.there))

pub fire-requires-in-Grid-clause-there : goal.fire-requires-in-Grid-clause-there
fire-requires-in-Grid-clause-there c = ap is_some (get-entries c.in-Grid.ring.panes c.args.spot.place) ∙ (rw (← c.self.view_is, c.in-Grid.is) at c.requires.held.there)

pub invariant_of-self : goal.invariant_of-self
invariant_of-self c = elim c.match-self.branch [
  | in-Sessions w ↦
      let a = c.self.inside in
      let m = w.in-Sessions.list.panes in
      let h = rw w.in-Sessions.is at c.self.invariant.tables in
      let e = rw w.rebuilt.ensures at w.fire.ensures.panes in
      let pane = once_fired c.args.mode c.args.spot.place (option_map (λ cells. cells.now) c.args.row) e.0 in
      rw w.self-inside-is (record {
        shape = c.self.invariant.shape;
        tables = record {
          gap = h.gap;
          shape_is = h.shape_is;
          room = w.fire.ensures.keeps.room ∙ h.room;
          of_keys =
              keys_alike h.gap a.keys a.live (map.entries m) (map.entries w.fire.new.self.panes) _ h.of_keys
              (λ k. ap (windows_of_key k) (ap map.entries e.2 ∙ entries-insert places_total m c.args.spot.place pane)
              ∙ windows_replaced k c.args.spot.place pane (map.entries m) (as_true _ (entries_sorted m)) (rw (← c.self.view_is, w.in-Sessions.is) at c.requires.held.there));
        };
      })
  | in-Grid w ↦
      let h = rw w.in-Grid.is at c.self.invariant.tables in
      rw w.self-inside-is (record {
        shape = c.self.invariant.shape;
        tables = record {
          grid = h.grid;
          ring_is = λ some. w.fire-in-Grid.ensures.keeps.ring ∙ h.ring_is some;
          none = λ zero. absurd (none_there c.args.spot.place _ (h.none zero) (rw (← c.self.view_is, w.in-Grid.is) at c.requires.held.there));
        };
      })
]

pub returns-clause-panes : goal.returns-clause-panes
returns-clause-panes c = elim c.match-self.branch [
  | in-Sessions w ↦
      let m = w.in-Sessions.list.panes in
      let e = rw w.rebuilt.ensures at w.fire.ensures.panes in (
        e.0,
        rw (← c.self.view_is, w.in-Sessions.is) (sym (get-entries m c.args.spot.place) ∙ e.1),
        rw (w.self-inside-is, ← c.self.view_is, w.in-Sessions.is) (ap map.entries e.2 ∙ entries-insert places_total m c.args.spot.place (once_fired c.args.mode c.args.spot.place (option_map (λ cells. cells.now) c.args.row) e.0)),
      )
  | in-Grid w ↦
      let m = w.in-Grid.ring.panes in
      let e = w.fire-in-Grid.ensures.panes in (
        e.0,
        rw (← c.self.view_is, w.in-Grid.is) (sym (get-entries m c.args.spot.place) ∙ e.1),
        rw (w.self-inside-is, ← c.self.view_is, w.in-Grid.is) (ap map.entries e.2 ∙ entries-insert places_total m c.args.spot.place (once_fired c.args.mode c.args.spot.place (option_map (λ cells. cells.now) c.args.row) e.0)),
      )
]
