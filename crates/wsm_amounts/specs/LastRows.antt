-- What readers of accumulating panes do, who keep the last row of each window: once the window was dropped this row is of all of its
-- records. Accumulating panes are those of the Dataflow Model (Akidau et al. 2015); which firing comes last is this project's own rule.
use Rattle.std.specs.Prelude.{◌≡◌, ℕ, true, List, map, filter, filter_map, ℤ, Option, None, is_some}
use Rattle.std.specs.List.{last_or}
use Rattle.std.specs.Ordering.{eq_by_cmp}
use Rattle.wsm_record.specs.declared.cell.Cell.{Cell}
use Rattle.wsm_record.specs.Event.{Event}
use Rattle.wsm_windows.specs.declared.window.Window.{Window}
use Rattle.wsm_windows.specs.Windows.{IsWindowOfShape}
use Rattle.wsm_windows.specs.declared.place.Place.{Place}
use Rattle.wsm_windows.specs.Places.{place_cmp, at}
use Rattle.wsm_semantics.specs.Query.{Datum, Query}
use Rattle.wsm_semantics.specs.Panes.{contents}
use Rattle.wsm_semantics.specs.FiringSets.{IsDropped}
use Rattle.wsm_semantics.specs.LastingRows.{rows_so_far, shown_by}
use Rattle.wsm_semantics.specs.FromWatermark.{HasNoSessions}
use Rattle.wsm_semantics.specs.Amounts.{sum_of, number_of, Amount, amount_of}

-- the columns of the last pane row of a place, in all turns so far
abbrev pub last_written : Query → List Event → Place → Option (List Cell)
last_written q past p = last_or None (map (λ w. w.1) (filter (λ w. eq_by_cmp place_cmp p w.0) (filter_map shown_by (rows_so_far q past))))

-- each firing has a row: HAVING is true of all
abbrev pub WritesEach : Query → Type 0
WritesEach q = (key : ℕ) (ds : List Datum) → is_some (q.row key ds) ≡ true

-- the last row of a window that was dropped comes in a column to what its records do
abbrev pub LastRowsAddUp : Query → ℕ → Amount → Type 0
LastRowsAddUp q c amount = HasNoSessions q → (past : List Event) (key : ℕ) (u : ℤ) (w : Window) → IsWindowOfShape q.shape u w → IsDropped q past w →
    number_of c (last_written q past (at key w)) ≡ sum_of (amount_of amount) (contents q past (at key w))
