-- The text of a part's rows.
use Rattle.std.specs.Prelude.{◌≡◌, ℕ, Bool, true, false, List, [], ◌∷◌, ◌++◌, Option, Some, None, slice_get, if◌then◌else◌, codes, refl}
use Rattle.csv.specs.Reading.{is_bom}
use Rattle.csv.specs.Writing.{default_writer, escaped, fields_text, is_blank, row_text}

-- whether a cell begins with a byte order mark
abbrev pub has_mark : List ℕ → Bool
has_mark (a ∷ b ∷ c ∷ rest) = is_bom a b c
has_mark _ = false

abbrev pub is_marked : Option (List ℕ) → Bool
is_marked None = false
is_marked (Some cell) = has_mark cell

abbrev pub mark_bytes : List ℕ
mark_bytes = 239 ∷ 187 ∷ 191 ∷ []

-- what stands in front of a first row: a reader takes a byte order mark off the start of a text, so one
-- with which the first cell begins has another in front
abbrev pub mark_before : List (List ℕ) → List ℕ
mark_before row = if is_marked (slice_get row 0) then mark_bytes else []

-- the text of rows, each as `csv` writes it
unfoldable pub rows_text : List (List (List ℕ)) → List ℕ
rows_text [] = []
rows_text (row ∷ rows) = row_text default_writer row ++ rows_text rows

abbrev pub part_text : List (List (List ℕ)) → List ℕ
part_text [] = []
part_text (row ∷ rows) = mark_before row ++ rows_text (row ∷ rows)

-- whether there is a row
abbrev pub is_begun : List (List (List ℕ)) → Bool
is_begun [] = false
is_begun (row ∷ rows) = true

a_comma_is_quoted : part_text ((codes "r" ∷ codes "a,b" ∷ []) ∷ (codes "w" ∷ codes "5" ∷ []) ∷ []) ≡ codes "r,\"a,b\"\nw,5\n"
unfolding rows_text escaped fields_text is_blank
a_comma_is_quoted = refl

an_empty_cell_alone : part_text (([] ∷ []) ∷ []) ≡ codes "\"\"\n"
unfolding rows_text escaped fields_text is_blank
an_empty_cell_alone = refl
