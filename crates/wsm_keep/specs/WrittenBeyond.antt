-- How many rows of windows a run over the rows that stay writes: as many as the run over all rows wrote for windows that
-- begin beyond the times up to which records go. So they are counted as all rows are read.
use Rattle.std.specs.Prelude.{◌≡◌, Bool, true, false, List, filter, length}
use Rattle.wsm_record.specs.declared.words.Form.TheVariants.{Panes}
use Rattle.wsm_record.specs.Event.{Event}
use Rattle.wsm_windows.specs.declared.window.Shape.{Shape}
use Rattle.wsm_windows.specs.declared.window.Shape.TheVariants.{Fixed, Sliding, Session}
use Rattle.wsm_semantics.specs.declared.out_row.OutRow.{OutRow}
use Rattle.wsm_semantics.specs.Query.{Query}
use Rattle.wsm_semantics.specs.LastingRows.{rows_so_far}
use Rattle.wsm_semantics.specs.FromWatermark.{Times, dropped_times, is_beyond, is_row_at}
use Rattle.wsm_semantics.specs.Needed.{needed}

-- of some rows those of windows that begin beyond the time of their key
abbrev pub rows_beyond : Times → List OutRow → List OutRow
rows_beyond x rows = filter (is_row_at (is_beyond x)) rows

abbrev pub are_sessions : Shape → Bool
are_sessions (Fixed size) = false
are_sessions (Sliding size period) = false
are_sessions (Session gap) = true

-- panes of sessions are written, in whatever mode
pub record WritesSessions (q : Query) : Type 0 where
  pub shape : are_sessions q.shape ≡ true
  pub form : q.form ≡ Panes

-- a run over the needed events writes as many rows as one over the history wrote for windows that begin beyond
abbrev pub WritesBeyond : Query → List Event → Type 0
WritesBeyond q past = length (rows_so_far q (needed q past)) ≡ length (rows_beyond (dropped_times q past) (rows_so_far q past))
