use Rattle.std.proofs.Common.{ap, ◌∙◌, SFits, w64, to_z-of_z}
use Rattle.std.specs.FinMap as map
use Rattle.std.specs.FinMap.Entries.{where_key}
use Rattle.wsm_windows.specs.Places.{place_cmp}
use Rattle.wsm_slots.specs.Place.{is_kept}
use Rattle.wsm_list.proofs.Tables.{entries_kept}
use Rattle.wsm_panes.proofs.held.HeldPanes.drop_expired.Goals as goal
use Rattle.wsm_panes.proofs.held.HeldPanes.drop_expired.Goals.{in-Sessions, in-Grid}

pub invariant_of-self : goal.invariant_of-self
invariant_of-self c =
    let limit : SFits w64 c.args.limit = c.ranges.limit in
    elim c.match-self.branch [
      | in-Sessions w ↦
          let h = rw w.in-Sessions.is at c.self.invariant.tables in
          rw w.self-inside-is (record {
            shape = c.self.invariant.shape;
            tables = record { gap = h.gap; shape_is = h.shape_is; room = w.drop_from.ensures.keeps.room ∙ h.room; of_keys = w.drop_from.ensures.sessions h.gap c.self.inside.keys c.self.inside.live h.of_keys };
          })
      | in-Grid w ↦
          let h = rw w.in-Grid.is at c.self.invariant.tables in
          let left = ap map.entries (simp to_z-of_z at w.drop_expired.ensures.panes) ∙ entries_kept w.in-Grid.ring.panes (is_kept c.args.limit) in
          rw w.self-inside-is (record {
            shape = c.self.invariant.shape;
            tables = record {
              grid = h.grid;
              ring_is = λ some. ap (λ r. r.0) w.drop_expired.ensures.room ∙ h.ring_is some;
              none = λ zero. left ∙ ap (where_key place_cmp (is_kept c.args.limit)) (h.none zero);
            };
          })
    ]

pub returns-clause-panes : goal.returns-clause-panes
returns-clause-panes c =
    let limit : SFits w64 c.args.limit = c.ranges.limit in
    elim c.match-self.branch [
      | in-Sessions w ↦ rw (w.self-inside-is, ← c.self.view_is, w.in-Sessions.is) (ap map.entries (simp to_z-of_z at w.drop_from.ensures.panes) ∙ entries_kept w.in-Sessions.list.panes (is_kept c.args.limit))
      | in-Grid w ↦ rw (w.self-inside-is, ← c.self.view_is, w.in-Grid.is) (ap map.entries (simp to_z-of_z at w.drop_expired.ensures.panes) ∙ entries_kept w.in-Grid.ring.panes (is_kept c.args.limit))
    ]
