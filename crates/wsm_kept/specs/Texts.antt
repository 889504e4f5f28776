-- The texts of rows, one after the other.
use Rattle.std.specs.Prelude.{◌≡◌, ℕ, List, [], ◌∷◌, ◌++◌, codes, refl}
use Rattle.csv.specs.Writing.{default_writer, escaped, fields_text, is_blank, row_text}

-- the text of rows, each as `csv` writes it
unfoldable pub rows_text : List (List (List ℕ)) → List ℕ
rows_text [] = []
rows_text (row ∷ rows) = row_text default_writer row ++ rows_text rows

a_comma_is_quoted : rows_text ((codes "r" ∷ codes "a,b" ∷ []) ∷ (codes "w" ∷ codes "5" ∷ []) ∷ []) ≡ codes "r,\"a,b\"\nw,5\n"
unfolding rows_text escaped fields_text is_blank
a_comma_is_quoted = refl
