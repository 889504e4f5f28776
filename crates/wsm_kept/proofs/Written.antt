-- What was written of rows, and of what stands in their place.
use Rattle.std.proofs.Common.{◌≡◌, ℕ, List, [], ◌∷◌, ◌++◌, Bool, true, false, Option, Some, None, Result, Ok, Err, OnErr, sym, subst, append_assoc, append-nil}
use Rattle.std.specs.Io.KnownBytes.{Appends, Keeps}
use Rattle.csv.specs.Writing.{default_writer, row_text}
use Rattle.wsm_semantics.specs.Query.{Query}
use Rattle.wsm_csv.specs.Device.{TakesPart}
use Rattle.wsm_csv.specs.Records.{AreAll, AreFirst}
use Rattle.wsm_csv.specs.Rows.{Follows, cells_of}
use Rattle.wsm_csv.specs.declared.rows.Rows.{Rows}
use Rattle.wsm_csv.proofs.RowsLemmas.{Follows-first}
use Rattle.wsm_csv.proofs.Written.{Appends-start, Appends-join, Keeps-Appends, TakesPart-all, TakesPart-join, TakesPart-last}
use Rattle.wsm_kept.specs.declared.cut.Cut.{Cut}
use Rattle.wsm_kept.specs.Kept.{Cells, kept_text}
use Rattle.wsm_kept.specs.Cut.{AreRead, Follow, FollowInPart, IsBegun, IsCut, IsWritten}
use Rattle.wsm_kept.specs.Texts.{rows_text}
use Rattle.wsm_kept.proofs.Texts.{rows_text-more}

-- what holds however a call ended
pub on_err : {T E P : Type 0} (r : Result T E) → P → OnErr r P
on_err (Ok v) p = tt
on_err (Err e) p = p

pub all_first : (known : Option (List ℕ)) (rows : List Cells) → AreAll known rows → AreFirst known rows
all_first None rows h = tt
all_first (Some bytes) rows (s, rest, reached, none) = (s, rest, reached)

one_text : (row : Cells) → row_text default_writer row ≡ rows_text (row ∷ [])
unfolding rows_text
one_text row = sym (append-nil (row_text default_writer row))

-- no row is behind
pub none_behind : (known : Option (List ℕ)) (past : List Cells) (old : Option (List ℕ)) → AreAll known past → Follow known past old old
unfolding rows_text
none_behind known past old all = record { behind = []; all = subst (AreAll known) (sym (append-nil past)) all; text = Appends-start old }

-- a row is behind, and the others behind it
pub first_behind : (known : Option (List ℕ)) (past : List Cells) (row : Cells) (old mid new : Option (List ℕ))
    → Appends old mid (row_text default_writer row) → Follow known (past ++ row ∷ []) mid new → Follow known past old new
unfolding rows_text
first_behind known past row old mid new text more = record {
  behind = row ∷ more.behind;
  all = subst (AreAll known) (append_assoc past (row ∷ []) more.behind) more.all;
  text = Appends-join old mid new (row_text default_writer row) (rows_text more.behind) text more.text;
}

pub first_in_part : (known : Option (List ℕ)) (past : List Cells) (row : Cells) (old new : Option (List ℕ))
    → AreFirst known (past ++ row ∷ []) → TakesPart old new (row_text default_writer row) → FollowInPart known past old new
first_in_part known past row old new first part = record { behind = row ∷ []; first = first; part = subst (TakesPart old new) (one_text row) part }

pub others_in_part : (known : Option (List ℕ)) (past : List Cells) (row : Cells) (old mid new : Option (List ℕ))
    → Appends old mid (row_text default_writer row) → FollowInPart known (past ++ row ∷ []) mid new → FollowInPart known past old new
unfolding rows_text
others_in_part known past row old mid new text more = record {
  behind = row ∷ more.behind;
  first = subst (AreFirst known) (append_assoc past (row ∷ []) more.behind) more.first;
  part = TakesPart-last old mid new (row_text default_writer row) (rows_text more.behind) text more.part;
}

module _ {R : Type 0} (remaining : R → Option (List ℕ)) (known : Option (List ℕ)) (past : List Cells) where
  -- rows behind others were read and written
  pub record Goes (old now : Option (List ℕ)) (rows : Rows R) : Type 0 where
    pub behind : List Cells
    pub follows : Follows remaining known (past ++ behind) rows
    pub text : Appends old now (rows_text behind)

  pub goes-start : (old : Option (List ℕ)) (rows : Rows R) → Follows remaining known past rows → Goes old old rows
  unfolding rows_text
  goes-start old rows follows = record { behind = []; follows = subst (λ (rs : List Cells). Follows remaining known rs rows) (sym (append-nil past)) follows; text = Appends-start old }

  pub goes-more : (old now new : Option (List ℕ)) (rows next : Rows R) (row : Cells) (goes : Goes old now rows)
      → Follows remaining known ((past ++ goes.behind) ++ row ∷ []) next → Appends now new (row_text default_writer row) → Goes old new next
  goes-more old now new rows next row goes follows text = record {
    behind = goes.behind ++ row ∷ [];
    follows = subst (λ (rs : List Cells). Follows remaining known rs next) (append_assoc past goes.behind (row ∷ [])) follows;
    text = subst (Appends old new) (sym (rows_text-more goes.behind row)) (Appends-join old now new (rows_text goes.behind) (row_text default_writer row) goes.text text);
  }

  pub goes-part : (old now new : Option (List ℕ)) (rows next : Rows R) (row : Cells) (goes : Goes old now rows)
      → Follows remaining known ((past ++ goes.behind) ++ row ∷ []) next → TakesPart now new (row_text default_writer row) → FollowInPart known past old new
  goes-part old now new rows next row goes follows part = record {
    behind = goes.behind ++ row ∷ [];
    first = subst (AreFirst known) (append_assoc past goes.behind (row ∷ [])) (Follows-first remaining known ((past ++ goes.behind) ++ row ∷ []) next follows);
    part = subst (TakesPart old new) (sym (rows_text-more goes.behind row)) (TakesPart-last old now new (rows_text goes.behind) (row_text default_writer row) goes.text part);
  }

  pub goes-ended : (old now : Option (List ℕ)) (rows : Rows R) (goes : Goes old now rows) → AreAll known (past ++ goes.behind) → Follow known past old now
  goes-ended old now rows goes all = record { behind = goes.behind; all = all; text = goes.text }

  pub goes-broken : (old now : Option (List ℕ)) (rows : Rows R) (goes : Goes old now rows) → AreFirst known (past ++ goes.behind) → FollowInPart known past old now
  goes-broken old now rows goes first = record { behind = goes.behind; first = first; part = TakesPart-all old now (rows_text goes.behind) goes.text }

  -- what was read is a beginning
  pub some_first : (rows : Rows R) (at_end : Bool) → AreRead remaining known past rows at_end → (behind : List Cells) × AreFirst known (past ++ behind)
  some_first rows true all = ([], subst (AreFirst known) (sym (append-nil past)) (all_first known past all))
  some_first rows false follows = (cells_of rows ∷ [], Follows-first remaining known (past ++ cells_of rows ∷ []) rows follows)

module _ {R : Type 0} (remaining : R → Option (List ℕ)) (known : Option (List ℕ)) (q : Query) (sum : ℕ) (rows : Rows R) (cut : Cut) (is : IsCut remaining known q sum rows cut) where
  abbrev text_is : List ℕ
  text_is = kept_text q sum is.old is.past

  -- all was written, and has left
  pub is_written : (old mid last new : Option (List ℕ)) → Appends old mid cut.text.items → Follow known is.past mid last → Keeps last new → IsWritten known q sum is.past is.old old new
  is_written old mid last new text more kept = record {
    behind = more.behind;
    all = more.all;
    head = is.head;
    text = Keeps-Appends old last new (text_is ++ rows_text more.behind)
        (Appends-join old mid last text_is (rows_text more.behind) (subst (Appends old mid) is.text text) more.text) kept;
  }

  -- the device failed as it had it leave
  pub begun_whole : (old mid last new : Option (List ℕ)) → Appends old mid cut.text.items → Follow known is.past mid last → Keeps last new → IsBegun known q sum is.past is.old old new
  begun_whole old mid last new text more kept =
      let all : IsWritten known q sum is.past is.old old new = is_written old mid last new text more kept in
      record {
        behind = all.behind;
        first = all_first known (is.past ++ all.behind) all.all;
        head = all.head;
        part = TakesPart-all old new (text_is ++ rows_text all.behind) all.text;
      }

  -- it failed in what stands in the place of rows
  pub begun_first : (old new : Option (List ℕ)) → TakesPart old new cut.text.items → IsBegun known q sum is.past is.old old new
  begun_first old new part =
      let (behind, first) = some_first remaining known is.past rows cut.at_end is.read in
      record {
        behind = behind;
        first = first;
        head = is.head;
        part = TakesPart-join old old new [] text_is (rows_text behind) (Appends-start old) (subst (TakesPart old new) is.text part);
      }

  -- in the rows behind them
  pub begun_behind : (old mid new : Option (List ℕ)) → Appends old mid cut.text.items → FollowInPart known is.past mid new → IsBegun known q sum is.past is.old old new
  begun_behind old mid new text more = record {
    behind = more.behind;
    first = more.first;
    head = is.head;
    part = TakesPart-last old mid new text_is (rows_text more.behind) (subst (Appends old mid) is.text text) more.part;
  }
