-- A pane that fires.
use Rattle.std.specs.Prelude.{List, [], Option, option_map}
use Rattle.std.specs.List.{cons_option}
use Rattle.wsm_record.specs.declared.cell.Cell.{Cell}
use Rattle.wsm_record.specs.declared.event.Value.{Value}
use Rattle.wsm_record.specs.declared.words.Form.{Form}
use Rattle.wsm_record.specs.declared.words.Mode.{Mode}
use Rattle.wsm_windows.specs.Places.{window_of}
use Rattle.wsm_semantics.specs.declared.out_row.OutRow.{OutRow}
use Rattle.wsm_semantics.specs.declared.out_row.OutRow.TheVariants.{Pane as PaneRow}
use Rattle.wsm_semantics.specs.Relation.{chosen_rows}
use Rattle.wsm_semantics.specs.Summaries.{Fired, Pane, fired_count}
use Rattle.wsm_firing.specs.declared.fire.Due.{Due}

-- the firing of what is kept of it
abbrev pub fired_by : Mode → Due → Pane (List Value) → Fired (List Value)
fired_by mode d h = record { kind = d.kind; place = d.spot.place; count = fired_count mode h; folded = h.folded }

-- the row that it writes of these cells, if they are a row, where rows are those of panes
abbrev pub row_written : Form → Due → Option (List Cell) → List OutRow
row_written form d row = chosen_rows form (cons_option (option_map (PaneRow d.kind d.spot.place.key (window_of d.spot.place)) row) []) []
