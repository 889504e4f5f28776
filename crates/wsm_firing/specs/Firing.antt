-- What firings write, and what they need.
use Rattle.std.specs.Prelude.{ℕ, ◌+◌, ◌^◌, ◌<◌, ◌≤◌, List, [], ◌++◌, filter_map, length}
use Rattle.std.specs.List.{AllByRecursion}
use Rattle.wsm_record.specs.declared.event.Value.{Value}
use Rattle.wsm_record.specs.declared.cell.Cell.{Cell}
use Rattle.wsm_windows.specs.declared.place.Place.{Place}
use Rattle.wsm_semantics.specs.HeldBounds.{rows_of_panes}
use Rattle.wsm_semantics.specs.Retractions.{retracted_in}
use Rattle.wsm_semantics.specs.declared.out_row.OutRow.{OutRow}
use Rattle.wsm_semantics.specs.Summaries.{Fired, row_of}
use Rattle.wsm_semantics.specs.Relation.{chosen_rows}
use Rattle.wsm_program.specs.Program.{Program}
use Rattle.wsm_machine.specs.Meaning.{plan_of}
use Rattle.wsm_machine.specs.Sound.{MayFire}
use Rattle.wsm_firing.specs.declared.tally.Tally.{Tally}
use Rattle.wsm_firing.specs.Tally.{tally_of, tally_with}

-- the rows that firings write: none where rows are those of a stream
abbrev pub rows_of : Program → List (Fired (List Value)) → List OutRow
rows_of p fs = chosen_rows p.header.form (filter_map (row_of (plan_of p)) fs) []

-- the rows of a turn, but those of a stream: what is withdrawn, then what fires
abbrev pub turn_rows : Program → List (Place × List Cell) → List (Fired (List Value)) → List OutRow
turn_rows p withdrawn fs = chosen_rows p.header.form (retracted_in p.header.mode withdrawn ++ filter_map (row_of (plan_of p)) fs) []

-- FIRE may read what each is computed over, behind so many rows there is room for those that each can
-- write, and their instructions can be counted
pub record CanFire (p : Program) (capacity rows : ℕ) (fs : List (Fired (List Value))) : Type 0 where
  pub each : AllByRecursion (MayFire p) fs
  pub room : rows + rows_of_panes p.header.mode (length fs) ≤ capacity
  pub fired : length fs < 2 ^ 64
  pub steps : (tally_of p fs).steps_total < 2 ^ 64

-- the same of further firings, after a tally, with room for a pane row of each behind so many rows
pub record CanAdd (p : Program) (capacity rows : ℕ) (tally : Tally) (fs : List (Fired (List Value))) : Type 0 where
  pub each : AllByRecursion (MayFire p) fs
  pub room : rows + length fs ≤ capacity
  pub fired : tally.fired + length fs < 2 ^ 64
  pub steps : (tally_with p tally fs).steps_total < 2 ^ 64
