-- What stands above the rows of a CSV log: its first line, where that is a header with the names that the
-- source asks for.
use Rattle.std.specs.Prelude.{ℕ, List, [], ◌∷◌, length, Bool, true, false, Option, Some, None, Result, Ok, Err}
use Rattle.wsm_parts.specs.Csv.{cells_of, columns_of}
use Rattle.wsm_lines.specs.declared.fault.LineFault.{LineFault}
use Rattle.wsm_lines.specs.declared.source.CsvForm.{CsvForm}
use Rattle.wsm_lines.specs.declared.source.Format.{Format}
use Rattle.wsm_lines.specs.declared.source.Format.TheVariants as format
use Rattle.wsm_lines.specs.Text.{bare, text_in}

-- there was no line yet; the first was no header, as in all forms but CSV; or what it is: its text, the columns
-- of the names, and how many cells it has
pub data Heading : Type 0 where
  unread : Heading
  broken : Heading
  known : (header columns : List ℕ) → (count : ℕ) → Heading

abbrev pub with_columns : List ℕ → ℕ → Option (List ℕ) → Heading
with_columns text count None = broken
with_columns text count (Some columns) = known text columns count

abbrev pub of_cells : CsvForm → List ℕ → Option (List (List ℕ)) → Heading
of_cells form text None = broken
of_cells form text (Some cells) = with_columns text (length cells) (columns_of form.names cells)

-- the heading that a first line makes
abbrev pub heading_by : CsvForm → Result (List ℕ) LineFault → Heading
heading_by form (Err why) = broken
heading_by form (Ok text) = of_cells form text (cells_of form.separator text)

-- the heading behind one more line, which comes without a carriage return: the first makes it, and it stays
abbrev pub headed : CsvForm → ℕ → Heading → List ℕ → Heading
headed form longest unread line = heading_by form (text_in true longest line)
headed form longest broken line = broken
headed form longest (known header columns count) line = known header columns count

abbrev pub headed_in : Format → ℕ → Heading → List ℕ → Heading
headed_in format.Json longest heading line = broken
headed_in format.Access longest heading line = broken
headed_in format.Rows longest heading line = broken
headed_in (format.Csv form) longest heading line = headed form longest heading line

-- the heading behind these lines, the newest first
abbrev pub heading_in : Format → ℕ → List (List ℕ) → Heading
heading_in f longest [] = unread
heading_in f longest (line ∷ before) = headed_in f longest (heading_in f longest before) (bare line)

-- the next line is the first
abbrev pub is_unread : Heading → Bool
is_unread unread = true
is_unread broken = false
is_unread (known header columns count) = false
