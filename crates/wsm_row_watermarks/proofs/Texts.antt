-- The rows of lines, one line after the other, and what was taken of them.
use Rattle.std.proofs.Common.{◌≡◌, ◌∙◌, ◌++◌, ◌∷◌, ℕ, Bool, List, [], reverse, Option, sym, ap, subst}
use Rattle.std.specs.Io.KnownBytes.{Appends}
use Rattle.wsm_csv.specs.Device.{TakesPart}
use Rattle.wsm_csv.proofs.Written.{Appends-join, Appends-start, TakesPart-last}
use Rattle.wsm_log_rows.proofs.Reading.{newest_first}
use Rattle.wsm_turns.specs.Turns.{Setting}
use Rattle.wsm_row_watermarks.specs.declared.counts.Totals.{Totals}
use Rattle.wsm_row_watermarks.specs.declared.turns.RowTurns.{RowTurns}
use Rattle.wsm_row_watermarks.specs.Fits.{Ends, Fits, Turned, read_by}
use Rattle.wsm_row_watermarks.specs.Run.{Stands, read as lines_read}
use Rattle.wsm_row_watermarks.specs.Turns.{rows_text, text}

pub Stands-start : (w : Setting) (once : Option ℕ) (known : Option (List ℕ)) (t : RowTurns) → Fits w once t [] → Stands w once [] known known t
Stands-start w once known t fits = record { fits = fits; text = Appends-start known }

module _ (w : Setting) (once : Option ℕ) (read : List (List ℕ)) (line : List ℕ) (t t' : RowTurns) (turned : Turned w once t' (reverse read) line) where
  -- the rows with those of one line more
  next_text : rows_text w (lines_read w once read) ++ t'.handed.text.items ≡ rows_text w (lines_read w once (read ++ line ∷ []))
  next_text =
      ap (λ (l : List ℕ). rows_text w (lines_read w once read) ++ l) turned.text
      ∙ ap (λ (ls : List (List ℕ)). rows_text w (read_by w once ls)) (sym (newest_first read line))

  -- one line more, whose rows are taken
  pub Stands-next : (old now new : Option (List ℕ)) → Stands w once read old now t → Appends now new t'.handed.text.items → Stands w once (read ++ line ∷ []) old new t'
  Stands-next old now new stands taken = record {
    fits = subst (Fits w once t') (sym (newest_first read line)) turned.fits;
    text = subst (Appends old new) next_text (Appends-join old now new (rows_text w (lines_read w once read)) t'.handed.text.items stands.text taken);
  }

  -- one line more, of whose rows not all were taken
  pub TakesPart-next : (old now new : Option (List ℕ)) → Stands w once read old now t → TakesPart now new t'.handed.text.items → TakesPart old new (rows_text w (lines_read w once (read ++ line ∷ [])))
  TakesPart-next old now new stands part =
      subst (TakesPart old new) next_text (TakesPart-last old now new (rows_text w (lines_read w once read)) t'.handed.text.items stands.text part)

-- the rows with those at the end
pub last_text : (w : Setting) (once : Option ℕ) (last : Bool) (read : List (List ℕ)) (t : RowTurns) (totals : Totals) → Ends w once last t (reverse read) totals
    → rows_text w (lines_read w once read) ++ t.handed.text.items ≡ text w last (lines_read w once read)
last_text w once last read t totals ends = ap (λ (l : List ℕ). rows_text w (lines_read w once read) ++ l) ends.text
