-- The heading of a log is that of its first line.
use Rattle.std.proofs.Common.{◌≡◌, ◌∙◌, ℕ, true, List, [], ◌∷◌, length, Option, None, Some, Result, Ok, Err, refl, ap}
use Rattle.wsm_lines.specs.declared.source.CsvForm.{CsvForm}
use Rattle.wsm_lines.specs.declared.source.Format.{Format}
use Rattle.wsm_lines.specs.declared.source.Format.TheVariants as format
use Rattle.wsm_lines.specs.declared.fault.LineFault.{LineFault}
use Rattle.wsm_lines.specs.Heading.{Heading, headed, headed_in, heading_by, heading_in, of_cells, unread, with_columns}
use Rattle.wsm_lines.specs.Text.{bare, text_in}
use Rattle.wsm_log_text.specs.FirstLine.{first_behind}

by_columns : (form : CsvForm) (longest : ℕ) (text : List ℕ) (n : ℕ) (o : Option (List ℕ)) (line : List ℕ) → headed form longest (with_columns text n o) line ≡ with_columns text n o
by_columns form longest text n None line = refl
by_columns form longest text n (Some columns) line = refl

by_cells : (form : CsvForm) (longest : ℕ) (text : List ℕ) (o : Option (List (List ℕ))) (line : List ℕ) → headed form longest (of_cells form text o) line ≡ of_cells form text o
by_cells form longest text None line = refl
by_cells form longest text (Some cells) line = by_columns form longest text (length cells) _ line

by_text : (form : CsvForm) (longest : ℕ) (r : Result (List ℕ) LineFault) (line : List ℕ) → headed form longest (heading_by form r) line ≡ heading_by form r
by_text form longest (Err why) line = refl
by_text form longest (Ok text) line = by_cells form longest text _ line

stays : (f : Format) (longest : ℕ) (first line : List ℕ) → headed_in f longest (headed_in f longest unread first) line ≡ headed_in f longest unread first
stays format.Json longest first line = refl
stays format.Access longest first line = refl
stays format.Rows longest first line = refl
stays (format.Csv form) longest first line = by_text form longest (text_in true longest first) line

pub first_alone : (f : Format) (longest : ℕ) (line : List ℕ) (before : List (List ℕ)) → heading_in f longest (line ∷ before) ≡ heading_in f longest (first_behind line before ∷ [])
first_alone f longest line [] = refl
first_alone f longest line (other ∷ before) =
    ap (λ (h : Heading). headed_in f longest h (bare line)) (first_alone f longest other before)
    ∙ stays f longest (bare (first_behind other before)) (bare line)
