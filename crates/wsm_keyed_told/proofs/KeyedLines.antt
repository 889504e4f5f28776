-- Lines whose keys are the cells of names.
use Rattle.std.proofs.Common.{◌≡◌, ◌∙◌, ◌++◌, ◌∷◌, ℕ, true, List, [], length, map, Option, Some, None, refl, sym, ap, arith}
use Rattle.std.specs.Prelude.{nat_lt}
use Rattle.std.specs.List.{AllByRecursion}
use Rattle.std.proofs.lemmas.Bool.{ltb-true}
use Rattle.std.proofs.lemmas.List.{map-append, length-map, get_or_append_left}
use Rattle.std.proofs.lemmas.List.Concat.{flat_map-append}
use Rattle.wsm_record.specs.Schema.{Declared}
use Rattle.wsm_admission.specs.declared.verdict.Refusal.{Refusal}
use Rattle.wsm_admission.specs.declared.verdict.Refusal.TheVariants as refusal
use Rattle.wsm_semantics.specs.declared.out_row.OutRow.{OutRow}
use Rattle.wsm_semantics.specs.declared.out_row.OutRow.TheVariants.{Pane, Retract, Istream, Dstream, Rstream}
use Rattle.wsm_semantics.specs.ByKey.{is_row_of}
use Rattle.wsm_semantics.specs.ByNumber.{row_by}
use Rattle.wsm_semantics.specs.Lines.{Line, Out, refusal_lines}
use Rattle.wsm_semantics.specs.Text.{lines_text, name_at}
use Rattle.wsm_program.specs.Program.{Program}
use Rattle.wsm_part_programs.specs.Names.{of_names}
use Rattle.wsm_key_parts.specs.Merged.{place_of}
use Rattle.wsm_key_parts.specs.Parts.{declared_keys}
use Rattle.wsm_csv.specs.KeyedLines.{key_text, keyed_text}
use Rattle.wsm_key_names.specs.Cell.{cell_of, cells_of}
use Rattle.wsm_keyed_told.specs.KeyedLines.{keyed_line, keyed_lines}

-- a line of a refusal has no key
pub keyed_refusal : (d : Declared) (names : List (List ℕ)) (row : ℕ) (r : Option Refusal) → lines_text d (refusal_lines row r) ≡ keyed_lines d names (refusal_lines row r)
keyed_refusal d names row None = refl
keyed_refusal d names row (Some refusal.Late) = refl
keyed_refusal d names row (Some refusal.UnknownKey) = refl
keyed_refusal d names row (Some refusal.FieldRange) = refl
keyed_refusal d names row (Some refusal.TimeRange) = refl
keyed_refusal d names row (Some refusal.TooFarAhead) = refl
keyed_refusal d names row (Some refusal.RecordLimit) = refl
keyed_refusal d names row (Some refusal.NotRising) = refl
keyed_refusal d names row (Some refusal.UnknownSource) = refl

-- lines behind lines
pub keyed_both : (d : Declared) (names : List (List ℕ)) (first second : List Line) → keyed_lines d names (first ++ second) ≡ keyed_lines d names first ++ keyed_lines d names second
keyed_both d names first second = flat_map-append (keyed_line d names) first second

-- ---- the line of a row, by its place and its part

-- what is written of a row by the cell of its key's number is its line, the key by its number
pub line_by_number : (d : Declared) (names : List (List ℕ)) (number : ℕ → ℕ) (row : OutRow)
    → keyed_text d (name_at (cells_of names) (number (place_of row).key)) row ≡ keyed_line d names (Out (row_by number row))
line_by_number d names number (Pane kind key window columns) = refl
line_by_number d names number (Retract key window columns) = refl
line_by_number d names number (Istream mark columns) = refl
line_by_number d names number (Dstream mark columns) = refl
line_by_number d names number (Rstream mark columns) = refl

-- ---- more names

cell_stays : (names more : List (List ℕ)) (n : ℕ) → nat_lt n (length names) ≡ true → name_at (cells_of (names ++ more)) n ≡ name_at (cells_of names) n
cell_stays names more n h =
    let few = ltb-true n (length names) h in
    let same = length-map names cell_of in
    ap (λ (cells : List (List ℕ)). name_at cells n) (map-append cell_of names more) ∙ get_or_append_left (cells_of names) (cells_of more) [] n (omega (arith, few, same))

module _ (p : Program) (names more : List (List ℕ)) where
  key_stays : (row : OutRow) → is_row_of (declared_keys (of_names p names)) row ≡ true → key_text (cells_of (names ++ more)) row ≡ key_text (cells_of names) row
  key_stays (Pane kind key window columns) h = cell_stays names more key h
  key_stays (Retract key window columns) h = cell_stays names more key h
  key_stays (Istream mark columns) h = refl
  key_stays (Dstream mark columns) h = refl
  key_stays (Rstream mark columns) h = refl

  -- rows of names that are there are written so also where more names are
  pub rows_by_more : (rows : List OutRow) → AllByRecursion (λ r. is_row_of (declared_keys (of_names p names)) r ≡ true) rows
      → keyed_lines p.header.schema names (map Out rows) ≡ keyed_lines p.header.schema (names ++ more) (map Out rows)
  rows_by_more [] all = refl
  rows_by_more (r ∷ rs) all = λ i. keyed_text p.header.schema (sym (key_stays r all.0) i) r ++ rows_by_more rs all.1 i
