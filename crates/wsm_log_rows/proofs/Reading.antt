-- What was read of a log, and the rows that were written for it.
use Rattle.std.proofs.Common.{◌≡◌, ◌∙◌, ◌++◌, ◌∷◌, ℕ, List, [], reverse, Option, Some, None, refl, sym, ap, subst}
use Rattle.std.proofs.lemmas.List.{reverse-append}
use Rattle.std.specs.Io.KnownBytes.{Appends}
use Rattle.wsm_csv.specs.Device.{TakesPart}
use Rattle.wsm_csv.proofs.Written.{Appends-join, TakesPart-last}
use Rattle.wsm_record.specs.Schema.{Declared}
use Rattle.wsm_lines.specs.Said.{said_of}
use Rattle.wsm_lines.specs.declared.source.Source.{Source}
use Rattle.wsm_log.specs.LinesOf.{AreFirst, kept_lines_of}
use Rattle.wsm_log.specs.Lines.{Follows}
use Rattle.wsm_log.specs.declared.lines.Lines.{Lines}
use Rattle.wsm_log_rows.specs.declared.rows.RowWriter.{RowWriter}
use Rattle.wsm_log_rows.specs.Rows.{HasRead, HasWritten, Rows, row_text, rows_before, rows_of}

pub newest_first : (read : List (List ℕ)) (line : List ℕ) → reverse (read ++ line ∷ []) ≡ line ∷ reverse read
newest_first read line = reverse-append read (line ∷ [])

-- what was read is a beginning
pub Follows-first : {R : Type 0} (longest : ℕ) (remaining : R → Option (List ℕ)) (known : Option (List ℕ)) (read : List (List ℕ)) (r : Lines R) → Follows longest remaining known read r → AreFirst longest known read
Follows-first longest remaining None read r h = tt
Follows-first longest remaining (Some bytes) read r h = (kept_lines_of longest h.rest.0, h.rest.3)

pub rows_more : (s : Source) (d : Declared) (read : List (List ℕ)) (line : List ℕ) → rows_of s d (read ++ line ∷ []) ≡ rows_of s d read ++ row_text d (said_of s d (reverse read) line)
rows_more s d read line = ap (rows_before s d) (newest_first read line)

pub AreFirst-none : (longest : ℕ) (known : Option (List ℕ)) → AreFirst longest known []
AreFirst-none longest None = tt
AreFirst-none longest (Some bytes) = (kept_lines_of longest bytes, refl)

module _ (s : Source) (d : Declared) (read : List (List ℕ)) (line : List ℕ) (w w' : RowWriter) (old now new : Option (List ℕ)) (has : HasWritten s d read old now w) (rows : Rows s d w' (reverse read) line) where
  more_rows : rows_of s d read ++ w'.text.items ≡ rows_of s d (read ++ line ∷ [])
  more_rows = ap (λ (l : List ℕ). rows_of s d read ++ l) rows.text ∙ sym (rows_more s d read line)

  -- one row more, which is taken
  pub HasWritten-next : Appends now new w'.text.items → HasWritten s d (read ++ line ∷ []) old new w'
  HasWritten-next taken = record {
    reads = subst (HasRead s w') (sym (newest_first read line)) rows.reads;
    text = subst (Appends old new) more_rows (Appends-join old now new (rows_of s d read) w'.text.items has.text taken);
  }

  -- one row more, of which not all was taken
  pub RowsPart-next : TakesPart now new w'.text.items → TakesPart old new (rows_of s d (read ++ line ∷ []))
  RowsPart-next part = subst (TakesPart old new) more_rows (TakesPart-last old now new (rows_of s d read) w'.text.items has.text part)
