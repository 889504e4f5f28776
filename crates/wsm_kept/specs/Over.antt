-- What comes of the rows of a reader that are cut as was asked.
use Rattle.std.specs.Prelude.{◌≡◌, ◌⊎◌, ℕ, Bool, false, List, Option}
use Rattle.wsm_semantics.specs.Query.{Query}
use Rattle.wsm_csv.specs.Rows.{error_of}
use Rattle.wsm_csv.specs.declared.rows.Rows.{Rows}
use Rattle.wsm_kept.specs.declared.asked.Asked.{Asked}
use Rattle.wsm_kept.specs.declared.cut.Cut.{Cut}
use Rattle.wsm_kept.specs.declared.end.KeepEnd.{KeepEnd}
use Rattle.wsm_kept.specs.declared.head.Head.{Head}
use Rattle.wsm_kept.specs.Cut.{IsBegun, IsWritten}
use Rattle.wsm_kept.specs.Ends.{EndsBy, WriteEnds}
use Rattle.wsm_kept.specs.Pass.{IsAskedCut}

-- a cut was made of some rows, and all was written: the head of it, the rows that stay, and all rows behind those that were cut
pub record CutWritten {R : Type 0} (remaining : R → Option (List ℕ)) (known : Option (List ℕ)) (q : Query) (asked : Asked) (old new : Option (List ℕ)) (head : Head) : Type 0 where
  pub rows : Rows R
  pub made : Cut
  pub cut : IsAskedCut remaining known q asked rows made
  pub front : made.head ≡ head
  pub text : IsWritten known q asked.sum cut.cut.past cut.cut.old old new

-- nothing was written, as rows weren't cut; or a cut was made and a beginning of that was written
abbrev pub CutBegun : {R : Type 0} → (R → Option (List ℕ)) → Option (List ℕ) → Query → Asked → Option (List ℕ) → Option (List ℕ) → Bool → KeepEnd → Type 0
CutBegun {R} remaining known q asked old new failed end =
    ((new ≡ old) × (failed ≡ false) × (rows : Rows R) × EndsBy remaining known q asked rows end)
    ⊎ ((rows : Rows R) × (left : Rows R) × (made : Cut) × (cut : IsAskedCut remaining known q asked rows made)
    × IsBegun known q asked.sum cut.cut.past cut.cut.old old new × WriteEnds failed (error_of left) end)
