-- A line with the cell of a name reads as the name.
use Rattle.std.proofs.Common.{◌≡◌, ◌∙◌, ◌==◌, ◌&&◌, ◌||◌, ◌++◌, ◌∷◌, [], ℕ, List, Bool, true, false, Some, map, refl, sym, ap, subst, inl, inr}
use Rattle.std.specs.List.{list_any}
use Rattle.std.proofs.lemmas.Bool.{cases_Bool, eqb-true}
use Rattle.csv.specs.Machine.{next_record}
use Rattle.csv.specs.Reading.{default_config}
use Rattle.csv.specs.Writing.{default_writer, escaped, field_text, fields_text, is_blank, needs_byte, row_body, row_text}
use Rattle.csv.specs.declared.parser.State.TheVariants as st
use Rattle.csv.proofs.RoundTrip.{read-write}
use Rattle.wsm_record.proofs.Lists.{or_left, or_right}
use Rattle.wsm_semantics.specs.Text.{joined}
use Rattle.wsm_csv.specs.Lines.{cells_text}
use Rattle.wsm_csv.proofs.LineLemmas.{joined-cells}
use Rattle.wsm_key_names.specs.Cell.{ReadsBack, cell_of, doubled, needs_quotes}

-- ---- the cell of a text is what csv writes for it

doubled_is : (text : List ℕ) → doubled text ≡ escaped default_writer text
unfolding doubled escaped
doubled_is [] = refl
doubled_is (b ∷ bs) = elim (cases_Bool (b == 34)) [
  | inl is ↦ rw (is, doubled_is bs) (ap (λ (x : ℕ). 34 ∷ x ∷ escaped default_writer bs) (sym (eqb-true b 34 is)))
  | inr other ↦ rw (other, doubled_is bs) refl
]

marks : (x y z w v : Bool) → (x || y || z || w) ≡ (x || y || (z || w) || (false && v) || false)
marks true y z w v = refl
marks false true z w v = refl
marks false false true w v = refl
marks false false false true v = refl
marks false false false false v = refl

needs_is : (text : List ℕ) → needs_quotes text ≡ list_any (needs_byte default_writer) text
needs_is [] = refl
needs_is (b ∷ bs) = rw (needs_is bs) (ap (λ (m : Bool). m || list_any (needs_byte default_writer) bs) (marks (b == 44) (b == 34) (b == 13) (b == 10) (b == 92)))

pub cell_is : (text : List ℕ) → cell_of text ≡ field_text default_writer text
cell_is text = elim (cases_Bool (needs_quotes text)) [
  | inl needs ↦
      let too : list_any (needs_byte default_writer) text ≡ true = sym (needs_is text) ∙ needs in
      rw (needs, too) (ap (λ (t : List ℕ). 34 ∷ (t ++ 34 ∷ [])) (doubled_is text))
  | inr plain ↦
      let too : list_any (needs_byte default_writer) text ≡ false = sym (needs_is text) ∙ plain in
      rw (plain, too) refl
]

-- ---- a line of cells is the text of a row

fields_are : (cells : List (List ℕ)) → cells_text (map cell_of cells) ≡ fields_text default_writer cells
unfolding fields_text
fields_are [] = refl
fields_are (cell ∷ cells) = rw (cell_is cell, fields_are cells) refl

body_is : (cell : List ℕ) (cells : List (List ℕ)) → joined (map cell_of (cell ∷ cells)) ≡ row_body default_writer (cell ∷ cells)
body_is cell cells = joined-cells (cell_of cell) (map cell_of cells) ∙ rw (cell_is cell, fields_are cells) refl

row_is : (a b : List ℕ) (cells : List (List ℕ)) → joined (map cell_of (a ∷ b ∷ cells)) ++ 10 ∷ [] ≡ row_text default_writer (a ∷ b ∷ cells)
unfolding is_blank
row_is a b cells = ap (λ (t : List ℕ). t ++ 10 ∷ []) (body_is a (b ∷ cells))

reads : (a b : List ℕ) (cells : List (List ℕ)) (rest : List ℕ)
    → next_record default_config st.StartRecord [] [] ((joined (map cell_of (a ∷ b ∷ cells)) ++ 10 ∷ []) ++ rest) ≡ Some (a ∷ b ∷ cells, st.StartRecord, rest)
reads a b cells rest = rw (row_is a b cells) (read-write (a ∷ b ∷ cells) rest)

-- ---- cells that need no quotes are as they stand

bare : (text : List ℕ) → needs_quotes text ≡ false → cell_of text ≡ text
bare text plain = rw plain refl

all_bare : (cells : List (List ℕ)) → list_any needs_quotes cells ≡ false → map cell_of cells ≡ cells
all_bare [] plain = refl
all_bare (cell ∷ cells) plain =
    rw (bare cell (or_left (needs_quotes cell) (list_any needs_quotes cells) plain), all_bare cells (or_right (needs_quotes cell) (list_any needs_quotes cells) plain)) refl

one_cell : (front : List (List ℕ)) (text : List ℕ) (back : List (List ℕ)) → list_any needs_quotes (front ++ back) ≡ false → map cell_of (front ++ text ∷ back) ≡ front ++ cell_of text ∷ back
one_cell [] text back plain = rw (all_bare back plain) refl
one_cell (cell ∷ front) text back plain =
    rw (bare cell (or_left (needs_quotes cell) (list_any needs_quotes (front ++ back)) plain), one_cell front text back (or_right (needs_quotes cell) (list_any needs_quotes (front ++ back)) plain)) refl

abbrev ReadsAs : List (List ℕ) → List (List ℕ) → List ℕ → Type 0
ReadsAs fields cells rest = next_record default_config st.StartRecord [] [] ((joined cells ++ 10 ∷ []) ++ rest) ≡ Some (fields, st.StartRecord, rest)

pub reads_back : ReadsBack
reads_back first [] text back rest plain =
    subst (λ (cells : List (List ℕ)). ReadsAs (first ∷ text ∷ back) cells rest) (one_cell (first ∷ []) text back plain) (reads first text back rest)
reads_back first (next ∷ front) text back rest plain =
    subst (λ (cells : List (List ℕ)). ReadsAs (first ∷ next ∷ front ++ text ∷ back) cells rest) (one_cell (first ∷ next ∷ front) text back plain) (reads first next (front ++ text ∷ back) rest)
