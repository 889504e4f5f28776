-- Where the cells of a row lie that is read.
use Rattle.std.specs.Prelude.{◌≤◌, List, length, Option, None}
use Rattle.wsm_record.specs.declared.cell.Cell.{Cell}
use Rattle.wsm_record.specs.declared.limits.TheConstants.{MAX_COLUMNS}
use Rattle.wsm_windows.specs.declared.window.Window.{Window}
use Rattle.wsm_semantics.specs.declared.standing.Standing.{Standing}
use Rattle.wsm_semantics.specs.declared.standing.Standing.TheVariants.{Unfired, Row, Joined}
use Rattle.wsm_slots.specs.declared.view.RowView.{RowView}
use Rattle.wsm_slots.specs.declared.view.RowView.TheVariants.{Whole, Part}
use Rattle.wsm_slots.specs.RowWords.{cells_by}

abbrev pub row_seen : RowView → List Cell
row_seen (Whole columns) = columns.now
row_seen (Part row) = cells_by row.kinds row.words.now

-- the window of the firing that stands, where it is kept
abbrev pub window_stood : Standing → Option Window
window_stood Unfired = None
window_stood (Row window columns) = window
window_stood Joined = None

-- there are no more than a row can have
abbrev pub IsFew : RowView → Type 0
IsFew (Whole columns) = Unit {0}
IsFew (Part row) = length row.words.now ≤ MAX_COLUMNS
