-- What a pass has of the rows so far, and what it comes to.
use Rattle.std.specs.Prelude.{◌≡◌, ◌⊎◌, ℕ, ◌+◌, ◌-◌, ◌<◌, ◌≤◌, Bool, true, false, List, [], ◌∷◌, ◌++◌, length, take, Option, Some, None}
use Rattle.std.specs.Bool.{MatchBool}
use Rattle.wsm_admission.specs.Admission.{counter}
use Rattle.wsm_semantics.specs.Query.{Query}
use Rattle.wsm_semantics.specs.Lines.{lines_so_far}
use Rattle.wsm_program.specs.Program.{Program}
use Rattle.wsm_machine.specs.Meaning.{query_of}
use Rattle.wsm_csv.specs.Rows.{cells_of}
use Rattle.wsm_csv.specs.declared.rows.Rows.{Rows}
use Rattle.wsm_record.specs.Event.{Event}
use Rattle.wsm_keep.specs.Begins.{HasBegun}
use Rattle.wsm_keep.specs.Holds.{Written, read}
use Rattle.wsm_keep.specs.Staying.{events_in}
use Rattle.wsm_cut.specs.declared.cutter.Cutter.{Cutter}
use Rattle.wsm_cut.specs.Cutter as cutter
use Rattle.wsm_kept.specs.Own.{writes_sessions}
use Rattle.wsm_kept.specs.declared.asked.Asked.{Asked}
use Rattle.wsm_kept.specs.declared.cut.Cut.{Cut}
use Rattle.wsm_kept.specs.declared.head.Head.{Head}
use Rattle.wsm_kept.specs.declared.pass.Pass.{Pass}
use Rattle.wsm_kept.specs.Cut.{AreRead, IsCut}
use Rattle.wsm_kept.specs.Head.{BeginWith, no_head}
use Rattle.wsm_kept.specs.Kept.{Cells, counts_of, head_of, kept_text, rows_of, written}
use Rattle.wsm_kept.specs.Run as run

-- how many lines a run over rows writes, without its end row
abbrev pub line_count : Query → List Cells → ℕ
line_count q rows = length (lines_so_far q (rows_of q rows))

-- no row is gone, or rows were cut for the query with this sum
abbrev pub IsOf : ℕ → Head → Type 0
IsOf sum head = (head ≡ no_head) ⊎ ((1 ≤ head.kept) × (head.sum ≡ sum))

-- as many of the rows as the head says write as many lines as it says, where so many are there
abbrev pub Meets : Query → Head → List Cells → Type 0
Meets q head past = head.kept ≤ counter (length past) → counter (line_count q (take head.kept past)) ≡ head.own

-- of all lines so many were taken, so rows with this head may write so many
abbrev pub IsLimit : Option ℕ → Head → ℕ → Type 0
IsLimit None head most = most ≡ 18446744073709551615
IsLimit (Some taken) head most = (head.lines ≤ taken) × (most ≡ counter ((taken - head.lines) + head.own))

-- ---- the rows so far

-- a cutter has what is kept of rows, and where they are counted of those that were written for them
pub record Keeps (p : Program) (is_counted : Bool) (c : Cutter) (rows : List Written) : Type 0 where
  pub fits : cutter.Fits p c rows
  pub by : is_counted ≡ writes_sessions p.header
  pub begun : is_counted ≡ true → HasBegun (query_of p) (events_in read rows) c.keeper.begins.items

-- and of those that the next event writes
pub record KeepsWritten (p : Program) (is_counted : Bool) (c : Cutter) (rows : List Written) (e : Event) : Type 0 where
  pub fits : cutter.Fits p c rows
  pub by : is_counted ≡ writes_sessions p.header
  pub begun : is_counted ≡ true → HasBegun (query_of p) (e ∷ events_in read rows) c.keeper.begins.items

-- these rows are cut, where these were read
pub record Cuts (p : Program) (pass : Pass) (past all : List Cells) : Type 0 where
  pub program : pass.run.engine.program ≡ p
  pub counts : pass.counts ≡ counts_of (query_of p) (rows_of (query_of p) past)
  pub cutter : Keeps p pass.is_counted pass.cutter (written (query_of p) past)
  pub head : BeginWith all pass.head
  pub of : IsOf pass.asked.sum pass.head
  pub meets : Meets (query_of p) pass.head past
  pub limit : IsLimit pass.asked.taken pass.head pass.most
  pub within : pass.counts.lines ≤ pass.most

pub record Fits (p : Program) (pass : Pass) (past : List Cells) : Type 0 where
  pub run : run.Fits p pass.run (rows_of (query_of p) past)
  pub cuts : Cuts p pass past past

-- with the next row more lines would be written than were taken
pub record Stops (p : Program) (pass : Pass) (past : List Cells) (row : Cells) : Type 0 where
  pub cuts : Cuts p pass past past
  pub beyond : pass.most < counter (line_count (query_of p) (past ++ row ∷ []))

abbrev pub Taken : Program → Pass → List Cells → Cells → Bool → Type 0
Taken p pass past row is_cut = MatchBool is_cut (Fits p pass (past ++ row ∷ [])) (Stops p pass past row)

-- ---- all rows

-- all rows were read and are cut, or the one that was read last isn't
abbrev pub Passes : {R : Type 0} → (R → Option (List ℕ)) → Option (List ℕ) → Program → Pass → Rows R → Bool → Type 0
Passes remaining known p pass rows at_end = (past : List Cells) × AreRead remaining known past rows at_end × MatchBool at_end (Cuts p pass past past) (Stops p pass past (cells_of rows))

-- where all rows were there, they write as many lines as were taken
abbrev pub AreWritten : Asked → Bool → Head → Type 0
AreWritten asked at_end head = asked.is_whole ≡ true → at_end ≡ true → (taken : ℕ) → asked.taken ≡ Some taken → taken ≤ head.lines

-- what stands in the place of rows that followed on a head
pub record IsCutAs (q : Query) (asked : Asked) (old : Head) (past : List Cells) (at_end : Bool) (cut : Cut) : Type 0 where
  pub head : cut.head ≡ head_of q asked.sum old past
  pub text : cut.text.items ≡ kept_text q asked.sum old past
  pub ends : cut.at_end ≡ at_end
  pub there : old.kept ≤ counter (length past)
  pub are_written : AreWritten asked at_end cut.head

-- with the next row more lines are written of all than so many
abbrev pub GoesBeyond : ℕ → Query → Head → List Cells → Cells → Type 0
GoesBeyond taken q old past next = taken < old.lines + (line_count q (past ++ next ∷ []) - old.own)

-- all rows are cut; or as many as wrote no more lines than were taken, and the next one would
abbrev pub IsUpTo : Option ℕ → Query → Head → List Cells → Cells → Head → Bool → Type 0
IsUpTo None q old past next head at_end = at_end ≡ true
IsUpTo (Some taken) q old past next head at_end =
    (head.lines ≤ taken) × (at_end ≡ false → GoesBeyond taken q old past next)

-- rows are cut as was asked: those in front of them were cut for the same query, and are there as their head says
pub record IsAskedCut {R : Type 0} (remaining : R → Option (List ℕ)) (known : Option (List ℕ)) (q : Query) (asked : Asked) (rows : Rows R) (made : Cut) : Type 0 where
  pub cut : IsCut remaining known q asked.sum rows made
  pub head : made.head ≡ head_of q asked.sum cut.old cut.past
  pub of : IsOf asked.sum cut.old
  pub there : cut.old.kept ≤ counter (length cut.past)
  pub meets : Meets q cut.old cut.past
  pub upto : IsUpTo asked.taken q cut.old cut.past (cells_of rows) made.head made.at_end
  pub are_written : AreWritten asked made.at_end made.head
