-- Which rows stay of those that are read, and what is written in their place.
use Rattle.std.specs.Prelude.{ℕ, ◌+◌, ◌-◌, List, [], ◌∷◌, ◌++◌, length, map, reverse, unsigned_abs}
use Rattle.wsm_admission.specs.Admission.{counter}
use Rattle.wsm_admission.specs.Clock.{admitted_count}
use Rattle.wsm_semantics.specs.Query.{Query}
use Rattle.wsm_semantics.specs.Lines.{Row, events, lines_so_far}
use Rattle.csv.specs.Writing.{default_writer, row_text}
use Rattle.wsm_csv.specs.Cells.{event_of_cells}
use Rattle.wsm_keep.specs.Holds.{Written}
use Rattle.wsm_kept.specs.Texts.{rows_text}
use Rattle.wsm_keep.specs.Staying.{staying}
use Rattle.wsm_kept.specs.declared.counts.Counts.{Counts}
use Rattle.wsm_kept.specs.declared.head.Head.{Head}
use Rattle.wsm_kept.specs.Head.{head_tag, head_text}

-- the cells of a row
abbrev pub Cells : Type 0
Cells = List (List ℕ)

-- rows as a run reads them, the newest first
abbrev pub rows_of : Query → List Cells → List Row
rows_of q cells = map (event_of_cells q.declared) (reverse cells)

-- what a run over rows comes to: how many there are, how many lines it writes before its end row, and how many records it takes
abbrev pub counts_of : Query → List Row → Counts
counts_of q rows = record {
  rows = counter (length rows);
  lines = counter (length (lines_so_far q rows));
  admitted = admitted_count q.clock q.shape q.declared (events rows);
}

-- the rows that stay, in their order
unfoldable pub kept_rows : Query → List Cells → List Cells
kept_rows q cells = reverse (staying (event_of_cells q.declared) q (reverse cells))

-- what a run reads in their place: a row that is no event in front, and those that stay
abbrev pub in_place : Query → List Cells → List Cells
in_place q cells = (head_tag ∷ []) ∷ kept_rows q cells

-- the head of what is written for rows that come to these counts, where a run over what is in their place comes to the others,
-- and they followed on a head
abbrev pub head_by : Query → ℕ → Head → Counts → Counts → Head
head_by q sum old all own = record {
  rows = counter (old.rows + (all.rows - old.kept));
  lines = counter (old.lines + (all.lines - old.own));
  kept = own.rows;
  own = own.lines;
  records = counter ((unsigned_abs q.clock.records - all.admitted) + own.admitted);
  sum = sum;
}

abbrev pub head_of : Query → ℕ → Head → List Cells → Head
head_of q sum old past = head_by q sum old (counts_of q (rows_of q past)) (counts_of q (rows_of q (in_place q past)))

-- what stands for rows that were cut: the head, and the rows that stay
abbrev pub kept_text : Query → ℕ → Head → List Cells → List ℕ
kept_text q sum old past = head_text (head_of q sum old past) ++ rows_text (kept_rows q past)

-- a row as it is read, and its text
abbrev pub with_text : Query → Cells → Written
with_text q cells = (event_of_cells q.declared cells, row_text default_writer cells)

-- rows with their texts, the newest first
abbrev pub written : Query → List Cells → List Written
written q cells = map (with_text q) (reverse cells)
