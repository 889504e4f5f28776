-- What is known of each pane that is kept as records: it is a held pane, and those of its records that
-- no firing showed are no more, and selected.
use Rattle.std.proofs.Common.{◌≤◌, List, length}
use Rattle.std.specs.Prelude.{not}
use Rattle.std.specs.List.{AllByRecursion}
use Rattle.wsm_record.specs.Event.{Event}
use Rattle.wsm_windows.specs.Windows.{IsShape}
use Rattle.wsm_windows.specs.declared.place.Place.{Place}
use Rattle.wsm_semantics.specs.Query.{Query, SessionsByEvent, mark}
use Rattle.wsm_semantics.specs.Panes.{held}
use Rattle.wsm_semantics.specs.Firings.{is_shown}
use Rattle.wsm_semantics.specs.Kept.{Kept, kept, kept_in}
use Rattle.wsm_semantics.proofs.Lists.{filter-all, all-each}
use Rattle.wsm_semantics.proofs.Each.{map-all}
use Rattle.wsm_semantics.proofs.SelectedRecords.{IsSelected}
use Rattle.wsm_semantics.proofs.ManyKeys.{length-filter}
use Rattle.wsm_semantics.proofs.HeldPanes.{IsHeldPane, held_panes}

-- a pane that is kept, after a history
pub record IsKeptPane (q : Query) (past : List Event) (e : Place × Kept) : Type 0 where
  pub pane : IsHeldPane q past (e.0, e.1.all)
  pub fewer : length e.1.unshown ≤ length e.1.all
  pub unshown : AllByRecursion (IsSelected q (mark q past)) e.1.unshown

module _ (q : Query) (ok : IsShape q.shape) (timely : SessionsByEvent q) where
  -- of each pane that is kept
  pub kept_panes : (past : List Event) → AllByRecursion (IsKeptPane q past) (kept q past)
  kept_panes past =
      map-all (IsKeptPane q past) (kept_in q past) (held q past)
      (all-each (IsHeldPane q past) (λ x. IsKeptPane q past (kept_in q past x)) (held q past)
      (λ x pane. record {
        pane = pane;
        fewer = length-filter (λ d. not (is_shown q past x.0 d)) x.1;
        unshown = filter-all (IsSelected q (mark q past)) (λ d. not (is_shown q past x.0 d)) x.1 pane.records;
      })
      (held_panes q ok timely past))
