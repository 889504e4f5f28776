-- What a run over the rows that stay comes to.
use Rattle.std.specs.Prelude.{◌≡◌, Bool, true, false, ◌&&◌, List, length, map, IsTrue}
use Rattle.wsm_record.specs.declared.words.Form.{Form}
use Rattle.wsm_record.specs.declared.words.Form.TheVariants.{Panes}
use Rattle.wsm_semantics.specs.FromWatermark.{dropped_times}
use Rattle.wsm_semantics.specs.LastingRows.{rows_so_far}
use Rattle.wsm_program.specs.Program.{Header, Program, is_program}
use Rattle.wsm_machine.specs.Meaning.{query_of}
use Rattle.wsm_keep.specs.declared.keeper.Remains.{Remains}
use Rattle.wsm_keep.specs.Holds.{read, text_of}
use Rattle.wsm_keep.specs.Keeper.{SelectsTaken}
use Rattle.wsm_keep.specs.Staying.{events_in, row_of, staying}
use Rattle.wsm_keep.specs.WrittenBeyond.{are_sessions, rows_beyond}
use Rattle.wsm_kept.specs.Kept.{Cells, written}

abbrev pub is_panes : Form → Bool
is_panes Panes = true
is_panes form = false

-- panes of sessions are written
abbrev pub writes_sessions : Header → Bool
writes_sessions h = are_sessions h.shape && is_panes h.form

-- what remains are the rows that stay; and of sessions so many rows were written as by a run over them
pub record HasStaying (p : Program) (past : List Cells) (remains : Remains) : Type 0 where
  pub whole : IsTrue (is_program p)
  pub texts : map row_of remains.queue ≡ map text_of (staying read (query_of p) (written (query_of p) past))
  pub selected : SelectsTaken (query_of p) (written (query_of p) past) remains.queue
  pub written : writes_sessions p.header ≡ true → let q = query_of p in let es = events_in read (written q past) in
      remains.written ≡ length (rows_beyond (dropped_times q es) (rows_so_far q es))
