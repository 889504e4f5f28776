-- Why rows aren't cut, by the end that tells it.
use Rattle.std.specs.Prelude.{◌≡◌, ◌≢◌, ◌⊎◌, ℕ, ◌<◌, ◌≤◌, Bool, true, false, List, [], ◌∷◌, ◌++◌, length, Option, Some, None, ⊤}
use Rattle.csv.specs.Writing.{default_writer, row_text}
use Rattle.csv.specs.declared.error.Error.{Error}
use Rattle.wsm_admission.specs.Admission.{counter}
use Rattle.wsm_semantics.specs.Query.{Query}
use Rattle.wsm_csv.specs.Records.{AreAll}
use Rattle.wsm_csv.specs.Rows.{Follows, cells_of, error_of, read_end}
use Rattle.wsm_csv.specs.declared.rows.ReadEnd.TheVariants as read
use Rattle.wsm_csv.specs.declared.rows.Rows.{Rows}
use Rattle.wsm_kept.specs.declared.asked.Asked.{Asked}
use Rattle.wsm_kept.specs.declared.end.KeepEnd.{KeepEnd}
use Rattle.wsm_kept.specs.declared.end.KeepEnd.TheVariants as ends
use Rattle.wsm_kept.specs.declared.head.Head.{Head}
use Rattle.wsm_kept.specs.Head.{BeginWith, IsNoHead, IsSaid, Says, head_text, is_tagged}
use Rattle.wsm_kept.specs.Kept.{Cells, head_of}
use Rattle.wsm_kept.specs.Pass.{GoesBeyond, IsOf, line_count}

-- ---- by the first row. Memory may be refused at any time

abbrev pub HeadEnds : Cells → KeepEnd → Type 0
HeadEnds row ends.BadHead = IsNoHead row
HeadEnds row ends.Memory = ⊤
HeadEnds row end = ⊥

-- it begins as a head does, and is written as none, or as one that speaks of no rows
abbrev pub IsBadHead : Cells → Type 0
IsBadHead row = (is_tagged row ≡ true) × ((h : Head) → IsSaid h → row_text default_writer row ≡ head_text h → h.kept ≡ 0)

-- it speaks of rows that were cut for a query with another sum
abbrev pub IsOfOther : ℕ → Cells → Type 0
IsOfOther sum row = (h : Head) × Says row h × (1 ≤ h.kept) × (h.sum ≢ sum)

abbrev pub FirstEnds : ℕ → Cells → KeepEnd → Type 0
FirstEnds sum row ends.BadHead = IsBadHead row
FirstEnds sum row ends.OtherQuery = IsOfOther sum row
FirstEnds sum row ends.Memory = ⊤
FirstEnds sum row end = ⊥

-- fewer lines of all were taken than were written for the rows that are gone
abbrev pub AreGone : Option ℕ → Head → Type 0
AreGone None h = ⊥
AreGone (Some taken) h = taken < h.lines

abbrev pub BeginEnds : Asked → Cells → KeepEnd → Type 0
BeginEnds asked row ends.Gone = (h : Head) × Says row h × IsOf asked.sum h × AreGone asked.taken h
BeginEnds asked row end = FirstEnds asked.sum row end

-- ---- by those that it speaks of

-- they are fewer
abbrev pub AreFewer : Head → List Cells → Type 0
AreFewer h past = counter (length past) < h.kept

-- with these rows they are as many, and write another number of lines
abbrev pub WriteOthers : Query → Head → List Cells → Type 0
WriteOthers q h past = (counter (length past) ≡ h.kept) × (counter (line_count q past) ≢ h.own)

-- they are fewer, and with the next row more lines are written than were taken
abbrev pub AreCutShort : Option ℕ → Query → Head → List Cells → Cells → Type 0
AreCutShort None q h past next = ⊥
AreCutShort (Some taken) q h past next = AreFewer h past × GoesBeyond taken q h past next

-- so it is behind some rows, with this one
pub record AreOthers (q : Query) (asked : Asked) (past : List Cells) (row : Cells) : Type 0 where
  pub old : Head
  pub head : BeginWith (past ++ row ∷ []) old
  pub of : IsOf asked.sum old
  pub they : AreCutShort asked.taken q old past row ⊎ WriteOthers q old (past ++ row ∷ [])

-- and where these are all rows
pub record AreTooFew (asked : Asked) (past : List Cells) : Type 0 where
  pub old : Head
  pub head : BeginWith past old
  pub of : IsOf asked.sum old
  pub they : AreFewer old past

-- a pass ends with a row behind those that are cut
abbrev pub TakeEnds : Query → Asked → List Cells → Cells → KeepEnd → Type 0
TakeEnds q asked past row ends.OtherRows = AreOthers q asked past row
TakeEnds q asked past row ends.Memory = ⊤
TakeEnds q asked past row end = (past ≡ []) × BeginEnds asked row end

-- ---- by all rows

-- they write fewer lines than were taken, and should write as many
abbrev pub WriteFewer : Query → Asked → Head → List Cells → Type 0
WriteFewer q asked old past = (asked.is_whole ≡ true) × ((taken : ℕ) × (asked.taken ≡ Some taken) × ((head_of q asked.sum old past).lines < taken))

abbrev pub CheckEnds : Asked → Bool → Head → KeepEnd → Type 0
CheckEnds asked at_end head ends.FewerLines = (at_end ≡ true) × (asked.is_whole ≡ true) × ((taken : ℕ) × (asked.taken ≡ Some taken) × (head.lines < taken))
CheckEnds asked at_end head end = ⊥

abbrev pub FinishEnds : Query → Asked → Head → List Cells → Bool → KeepEnd → Type 0
FinishEnds q asked old past at_end ends.OtherRows = AreFewer old past
FinishEnds q asked old past at_end ends.FewerLines = (at_end ≡ true) × WriteFewer q asked old past
FinishEnds q asked old past at_end ends.Memory = ⊤
FinishEnds q asked old past at_end end = ⊥

-- ---- of a reader's rows

-- rows weren't cut as was asked, where these were read
abbrev pub EndsBy : {R : Type 0} → (R → Option (List ℕ)) → Option (List ℕ) → Query → Asked → Rows R → KeepEnd → Type 0
EndsBy remaining known q asked rows ends.OtherRows =
    ((past : List Cells) × AreAll known past × AreTooFew asked past)
    ⊎ ((past : List Cells) × Follows remaining known (past ++ cells_of rows ∷ []) rows × AreOthers q asked past (cells_of rows))
EndsBy remaining known q asked rows ends.FewerLines =
    (past : List Cells) × AreAll known past × (old : Head) × BeginWith past old × IsOf asked.sum old × WriteFewer q asked old past
EndsBy remaining known q asked rows ends.ReadFailed = read_end (error_of rows) ≡ read.Failed
EndsBy remaining known q asked rows ends.Memory = ⊤
EndsBy remaining known q asked rows ends.WriteFailed = ⊥
EndsBy remaining known q asked rows end = Follows remaining known (cells_of rows ∷ []) rows × BeginEnds asked (cells_of rows) end

-- what is written for them ended early: by the device where that has failed, else by the rows, of which csv said this
abbrev pub WriteEnds : Bool → Option Error → KeepEnd → Type 0
WriteEnds failed said ends.WriteFailed = failed ≡ true
WriteEnds failed said ends.ReadFailed = (failed ≡ false) × (read_end said ≡ read.Failed)
WriteEnds failed said ends.Memory = failed ≡ false
WriteEnds failed said end = ⊥
