-- What was read and cut, and what is written then.
use Rattle.std.specs.Prelude.{◌≡◌, ℕ, Bool, List, [], ◌∷◌, ◌++◌, Option}
use Rattle.std.specs.Bool.{MatchBool}
use Rattle.std.specs.Io.KnownBytes.{Appends}
use Rattle.wsm_semantics.specs.Query.{Query}
use Rattle.wsm_csv.specs.Device.{TakesPart}
use Rattle.wsm_csv.specs.Records.{AreAll, AreFirst}
use Rattle.wsm_csv.specs.Rows.{Follows, cells_of}
use Rattle.wsm_csv.specs.declared.rows.ReadEnd.{ReadEnd}
use Rattle.wsm_csv.specs.declared.rows.ReadEnd.TheVariants as read
use Rattle.wsm_csv.specs.declared.rows.Rows.{Rows}
use Rattle.wsm_kept.specs.declared.end.KeepEnd.{KeepEnd}
use Rattle.wsm_kept.specs.declared.end.KeepEnd.TheVariants as ends
use Rattle.wsm_kept.specs.declared.head.Head.{Head}
use Rattle.wsm_kept.specs.declared.cut.Cut.{Cut}
use Rattle.wsm_kept.specs.Head.{BeginWith}
use Rattle.wsm_kept.specs.Kept.{Cells, kept_text}
use Rattle.wsm_kept.specs.Texts.{rows_text}

abbrev pub end_of_read : ReadEnd → KeepEnd
end_of_read read.Failed = ends.ReadFailed
end_of_read read.Memory = ends.Memory

-- these rows were read: all, or those in front of the one that was read last
abbrev pub AreRead : {R : Type 0} → (R → Option (List ℕ)) → Option (List ℕ) → List Cells → Rows R → Bool → Type 0
AreRead remaining known past rows at_end = MatchBool at_end (AreAll known past) (Follows remaining known (past ++ cells_of rows ∷ []) rows)

-- what was read is cut behind some rows, which followed on a head: their text is that of the head and the rows that stay
pub record IsCut {R : Type 0} (remaining : R → Option (List ℕ)) (known : Option (List ℕ)) (q : Query) (sum : ℕ) (rows : Rows R) (cut : Cut) : Type 0 where
  pub past : List Cells
  pub old : Head
  pub head : BeginWith past old
  pub text : cut.text.items ≡ kept_text q sum old past
  pub read : AreRead remaining known past rows cut.at_end

-- the other rows were read, and their text was written
pub record Follow (known : Option (List ℕ)) (past : List Cells) (old new : Option (List ℕ)) : Type 0 where
  pub behind : List Cells
  pub all : AreAll known (past ++ behind)
  pub text : Appends old new (rows_text behind)

-- some of the other rows were read, and a beginning of their text was written
pub record FollowInPart (known : Option (List ℕ)) (past : List Cells) (old new : Option (List ℕ)) : Type 0 where
  pub behind : List Cells
  pub first : AreFirst known (past ++ behind)
  pub part : TakesPart old new (rows_text behind)

-- all was read, and written as it stands behind these rows, in whose place the head and the rows that stay are written
pub record IsWritten (known : Option (List ℕ)) (q : Query) (sum : ℕ) (past : List Cells) (before : Head) (old new : Option (List ℕ)) : Type 0 where
  pub behind : List Cells
  pub all : AreAll known (past ++ behind)
  pub head : BeginWith past before
  pub text : Appends old new (kept_text q sum before past ++ rows_text behind)

-- a beginning of that was written, for the first rows
pub record IsBegun (known : Option (List ℕ)) (q : Query) (sum : ℕ) (past : List Cells) (before : Head) (old new : Option (List ℕ)) : Type 0 where
  pub behind : List Cells
  pub first : AreFirst known (past ++ behind)
  pub head : BeginWith past before
  pub part : TakesPart old new (kept_text q sum before past ++ rows_text behind)
