-- Of rows that were written where their windows begin.
use Rattle.std.specs.Prelude.{◌≡◌, ℕ, Bool, List, filter, filter_map, length, ◌≤ℤ◌, int_lt, Option, Some, None}
use Rattle.wsm_record.specs.Event.{Event}
use Rattle.wsm_semantics.specs.declared.out_row.OutRow.{OutRow}
use Rattle.wsm_semantics.specs.declared.out_row.OutRow.TheVariants.{Pane, Retract}
use Rattle.wsm_semantics.specs.Query.{Query}
use Rattle.wsm_semantics.specs.FromWatermark.{Times, dropped_times}
use Rattle.wsm_semantics.specs.LastingRows.{rows_so_far}
use Rattle.wsm_keep.specs.declared.begins.Begin.{Begin}
use Rattle.wsm_keep.specs.WrittenBeyond.{rows_beyond}

-- of a row of a window
abbrev pub begin_of : OutRow → Option Begin
begin_of (Pane kind key window columns) = Some (record { key = key; start = window.start })
begin_of (Retract key window columns) = Some (record { key = key; start = window.start })
begin_of _ = None

abbrev pub begins_of : List OutRow → List Begin
begins_of rows = filter_map begin_of rows

-- beyond the time of its key
abbrev pub begins_beyond : Times → Begin → Bool
begins_beyond x b = int_lt (x b.key) b.start

-- beyond some times, and whatever later ones, as many are told as rows were written; and up to these all records go
pub record HasBegun (q : Query) (past : List Event) (begins : List Begin) : Type 0 where
  pub x : Times
  pub go : (key : ℕ) → x key ≤ℤ dropped_times q past key
  pub same : (y : Times) → ((key : ℕ) → x key ≤ℤ y key) → length (filter (begins_beyond y) begins) ≡ length (rows_beyond y (rows_so_far q past))

-- and those alone are told that begin beyond the times up to which records go
pub record HasCounted (q : Query) (past : List Event) (begins : List Begin) : Type 0 where
  pub begun : HasBegun q past begins
  pub count : length begins ≡ length (rows_beyond (dropped_times q past) (rows_so_far q past))
