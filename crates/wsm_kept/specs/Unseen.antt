-- The cut is unseen: what a run writes behind what stands in the place of rows is what it writes behind these.
use Rattle.std.specs.Prelude.{◌≡◌, ℕ, ◌+◌, ◌≤◌, List, ◌∷◌, ◌++◌, Some, length, map, ℤ}
use Rattle.csv.specs.Reading.{AreRecords, default_config}
use Rattle.csv.specs.declared.parser.State.TheVariants as st
use Rattle.wsm_semantics.specs.Query.{Query}
use Rattle.wsm_semantics.specs.FromWatermark.{begun_at, BothHaveRoom}
use Rattle.wsm_semantics.specs.Lines.{Line, events, lines_so_far}
use Rattle.wsm_semantics.specs.Text.{lines_text}
use Rattle.wsm_csv.specs.Records.{AreAll}
use Rattle.wsm_keep.specs.GoesOn.{moved}
use Rattle.wsm_kept.specs.declared.head.Head.{Head}
use Rattle.wsm_kept.specs.Head.{head_cells}
use Rattle.wsm_kept.specs.Kept.{Cells, counts_of, head_of, in_place, kept_rows, kept_text, rows_of}
use Rattle.wsm_kept.specs.Texts.{rows_text}

-- what is read of what stands in the place of rows that followed on a head
abbrev pub cut_cells : Query → ℕ → Head → List Cells → List Cells
cut_cells q sum old past = head_cells (head_of q sum old past) ∷ kept_rows q past

-- the bytes of the turns of rows, as a run writes them
abbrev pub turns_text : Query → List Cells → List ℕ
turns_text q cells = lines_text q.declared (lines_so_far q (rows_of q cells))

-- a query with another RECORDS
abbrev pub with_records : ℤ → Query → Query
with_records records q = begun_at q.clock.start records q

-- what stands in the place of rows, with what is written behind it for those behind them, is read as these rows; and so it is
-- with any bytes behind it that are records by themselves
pub record IsReadBack (q : Query) (sum : ℕ) (old : Head) (past : List Cells) : Type 0 where
  pub written : (bytes : List ℕ) (behind : List Cells) → AreAll (Some bytes) (past ++ behind) → AreAll (Some (kept_text q sum old past ++ rows_text behind)) (cut_cells q sum old past ++ behind)
  pub bytes : (more : List ℕ) (behind : List Cells) → AreRecords default_config st.StartRecord more behind → AreAll (Some (kept_text q sum old past ++ more)) (cut_cells q sum old past ++ behind)

-- two texts of lines are alike, but that a row number is less by how many rows are fewer
pub record AreAlike (q : Query) (all some : ℕ) (text other : List ℕ) : Type 0 where
  pub lines : List Line
  pub others : List Line
  pub is : text ≡ lines_text q.declared lines
  pub other_is : other ≡ lines_text q.declared others
  pub alike : map (moved all) others ≡ map (moved some) lines

-- with more rows behind both, a run over the cut, by a query with another RECORDS, writes behind its own lines what one over all
-- rows writes behind theirs
pub record GoesOnBehind (q : Query) (records : ℤ) (past cut more : List Cells) : Type 0 where
  pub text : List ℕ
  pub other : List ℕ
  pub all : turns_text q (past ++ more) ≡ turns_text q past ++ text
  pub some : turns_text (with_records records q) (cut ++ more) ≡ turns_text (with_records records q) cut ++ other
  pub alike : AreAlike q (length past) (length cut) text other

-- both have room for more rows: none is refused for RECORDS, and counters of rows are exact
pub record HasRoomFor (q : Query) (records : ℤ) (past cut more : List Cells) : Type 0 where
  pub room : BothHaveRoom q q.clock.start records (events (rows_of q (past ++ more))) (events (rows_of q (cut ++ more)))
  pub counted : length more + length past ≤ 18446744073709551615
  pub counted_cut : length more + length cut ≤ 18446744073709551615

-- rows by themselves have room, by either RECORDS
pub record MayCount (q : Query) (records : ℤ) (cut : List Cells) : Type 0 where
  pub room : BothHaveRoom q q.clock.start records (events (rows_of q cut)) (events (rows_of q cut))
  pub counted : length cut ≤ 18446744073709551615

-- what stands in the place of rows is read as a head and the rows that stay, a run over it writes as many lines as the head says, by
-- another RECORDS too, and behind these what one over all rows writes
pub record IsUnseen (q : Query) (sum : ℕ) (old : Head) (past : List Cells) : Type 0 where
  pub read : IsReadBack q sum old past
  pub goes_on : (records : ℤ) (more : List Cells) → HasRoomFor q records past (cut_cells q sum old past) more → GoesOnBehind q records past (cut_cells q sum old past) more
  pub kept : counts_of q (rows_of q (cut_cells q sum old past)) ≡ counts_of q (rows_of q (in_place q past))
  pub own : (records : ℤ) → MayCount q records (cut_cells q sum old past) →
      length (lines_so_far (with_records records q) (rows_of q (cut_cells q sum old past))) ≡ length (lines_so_far q (rows_of q (cut_cells q sum old past)))

-- the head is of rows that are there, and no number comes to its greatest
pub record IsCounted (q : Query) (old : Head) (past cut more : List Cells) : Type 0 where
  pub kept : old.kept ≤ length past
  pub own : old.own ≤ length (lines_so_far q (rows_of q past))
  pub rows : (old.rows + length (past ++ more)) + length (cut ++ more) ≤ 18446744073709551615
  pub lines : (old.lines + length (lines_so_far q (rows_of q (past ++ more)))) + length (lines_so_far q (rows_of q (cut ++ more))) ≤ 18446744073709551615

-- rows that are cut again with more behind them come to as many rows and lines as all of them cut once
pub record AddsUp (q : Query) (sum : ℕ) (old : Head) (past more : List Cells) : Type 0 where
  pub rows : (head_of q sum (head_of q sum old past) (cut_cells q sum old past ++ more)).rows ≡ (head_of q sum old (past ++ more)).rows
  pub lines : (head_of q sum (head_of q sum old past) (cut_cells q sum old past ++ more)).lines ≡ (head_of q sum old (past ++ more)).lines
