-- The rows that stay, and what a run over them comes to.
use Rattle.std.specs.Prelude.{◌≡◌, ◌++◌, List, codes, unsigned_abs}
use Rattle.wsm_semantics.specs.Query.{Query}
use Rattle.wsm_kept.specs.declared.stay.Stay.{Stay}
use Rattle.wsm_kept.specs.Kept.{Cells, counts_of, in_place, kept_rows, rows_of}
use Rattle.wsm_kept.specs.Texts.{rows_text}

-- those of rows, behind one that is no event
pub record IsStay (q : Query) (past : List Cells) (stay : Stay) : Type 0 where
  pub text : stay.text.items ≡ codes "kept\n" ++ rows_text (kept_rows q past)
  pub own : stay.own ≡ counts_of q (rows_of q (in_place q past))
  pub records : unsigned_abs q.clock.records ≡ stay.records
