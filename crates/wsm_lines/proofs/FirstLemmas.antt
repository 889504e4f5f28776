-- The first line of a log is the one above which nothing was read, and so a line is taken apart as its log says.
use Rattle.std.proofs.Common.{◌≡◌, ◌∙◌, sym, ap, ℕ, List, [], ◌∷◌, refl, true, false, length}
use Rattle.std.specs.Prelude.{Option, Some, None, Result, Ok, Err}
use Rattle.wsm_record.specs.Schema.{Declared}
use Rattle.wsm_parts.specs.Csv.{cells_of, columns_of}
use Rattle.wsm_lines.specs.Fault.{on_ok}
use Rattle.wsm_lines.specs.Heading.{Heading, unread, broken, known, headed_in, heading_by, heading_in, is_unread, of_cells, with_columns}
use Rattle.wsm_lines.specs.Key.{key_by}
use Rattle.wsm_lines.specs.Said.{clock_by, event_by, identifier_by, is_first, said_of, taken_in, taken_of, taken_under}
use Rattle.wsm_lines.specs.Text.{bare, text_in}
use Rattle.wsm_lines.specs.declared.fault.LineFault.{LineFault}
use Rattle.wsm_lines.specs.declared.source.CsvForm.{CsvForm}
use Rattle.wsm_lines.specs.declared.source.Format.{Format}
use Rattle.wsm_lines.specs.declared.source.Format.TheVariants as format
use Rattle.wsm_lines.specs.declared.source.Source.{Source}

columns_read : (text : List ℕ) (count : ℕ) (columns : Option (List ℕ)) → is_unread (with_columns text count columns) ≡ false
columns_read text count None = refl
columns_read text count (Some columns) = refl

cells_read : (form : CsvForm) (text : List ℕ) (cells : Option (List (List ℕ))) → is_unread (of_cells form text cells) ≡ false
cells_read form text None = refl
cells_read form text (Some cells) = columns_read text _ (columns_of form.names cells)

text_read : (form : CsvForm) (text : Result (List ℕ) LineFault) → is_unread (heading_by form text) ≡ false
text_read form (Err why) = refl
text_read form (Ok text) = cells_read form text (cells_of form.separator text)

line_read : (f : Format) (longest : ℕ) (h : Heading) (line : List ℕ) → is_unread (headed_in f longest h line) ≡ false
line_read format.Json longest h line = refl
line_read format.Access longest h line = refl
line_read format.Rows longest h line = refl
line_read (format.Csv form) longest unread line = text_read form (text_in true longest line)
line_read (format.Csv form) longest broken line = refl
line_read (format.Csv form) longest (known header columns count) line = refl

pub is_unread-first : (f : Format) (longest : ℕ) (before : List (List ℕ)) → is_unread (heading_in f longest before) ≡ is_first before
is_unread-first f longest [] = refl
is_unread-first f longest (line ∷ before) = line_read f longest (heading_in f longest before) (bare line)

taken_of-under : (s : Source) (before : List (List ℕ)) (line text : List ℕ) (h : Heading) → h ≡ heading_in s.format s.longest before → text ≡ bare line → taken_under s h text ≡ taken_of s before line
taken_of-under s before line text h above is =
    ap (λ x. taken_under s x text) above
    ∙ ap (taken_under s (heading_in s.format s.longest before)) is
    ∙ ap (λ b. on_ok (text_in b s.longest (bare line)) (taken_in s.format (length s.fields) (heading_in s.format s.longest before))) (is_unread-first s.format s.longest before)

pub said_of-under : (s held : Source) (d : Declared) (before : List (List ℕ)) (line text : List ℕ) (h : Heading) → held ≡ s → h ≡ heading_in s.format s.longest before → text ≡ bare line → said_of s d before line ≡ event_by held d (taken_under held h text)
said_of-under s held d before line text h same above is =
    sym (ap (λ x. event_by x d (taken_under x h text)) same ∙ ap (event_by s d) (taken_of-under s before line text h above is))

pub identifier_of-under : (s held : Source) (before : List (List ℕ)) (line text : List ℕ) (h : Heading) → held ≡ s → h ≡ heading_in s.format s.longest before → text ≡ bare line → identifier_by s (taken_of s before line) ≡ identifier_by held (taken_under held h text)
identifier_of-under s held before line text h same above is =
    sym (ap (λ x. identifier_by x (taken_under x h text)) same ∙ ap (identifier_by s) (taken_of-under s before line text h above is))

pub clock_of-under : (s held : Source) (before : List (List ℕ)) (line text : List ℕ) (h : Heading) → held ≡ s → h ≡ heading_in s.format s.longest before → text ≡ bare line → clock_by s (taken_of s before line) ≡ clock_by held (taken_under held h text)
clock_of-under s held before line text h same above is =
    sym (ap (λ x. clock_by x (taken_under x h text)) same ∙ ap (clock_by s) (taken_of-under s before line text h above is))

pub key_text_of-under : (s held : Source) (before : List (List ℕ)) (line text : List ℕ) (h : Heading) → held ≡ s → h ≡ heading_in s.format s.longest before → text ≡ bare line → key_by s (taken_of s before line) ≡ key_by held (taken_under held h text)
key_text_of-under s held before line text h same above is =
    sym (ap (λ x. key_by x (taken_under x h text)) same ∙ ap (key_by s) (taken_of-under s before line text h above is))
