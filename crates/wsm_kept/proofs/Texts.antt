-- The texts of rows that stay, one after the other.
use Rattle.std.proofs.Common.{◌≡◌, ℕ, List, [], ◌∷◌, ◌++◌, map, reverse, Err, refl, sym, ap, ◌∙◌, append_assoc, append-nil}
use Rattle.std.proofs.lemmas.List.{map-append, reverse-append, reverse-reverse}
use Rattle.csv.specs.Writing.{default_writer, row_text}
use Rattle.wsm_record.specs.declared.event.RowFault.TheVariants.{BadTag}
use Rattle.wsm_semantics.specs.Query.{Query}
use Rattle.wsm_semantics.specs.Lines.{Row}
use Rattle.wsm_csv.specs.Cells.{event_of_cells}
use Rattle.wsm_keep.specs.Holds.{Written, read, text_of}
use Rattle.wsm_keep.specs.Items.{joined}
use Rattle.wsm_keep.specs.Staying.{staying}
use Rattle.wsm_keep.proofs.Natural.{staying_through}
use Rattle.wsm_kept.specs.Head.{head_tag}
use Rattle.wsm_kept.specs.Kept.{Cells, kept_rows, rows_of, with_text, written}
use Rattle.wsm_kept.specs.Texts.{rows_text}

pub rows_text-more : (rows : List Cells) (row : Cells) → rows_text (rows ++ row ∷ []) ≡ rows_text rows ++ row_text default_writer row
unfolding rows_text
rows_text-more [] row = append-nil (row_text default_writer row)
rows_text-more (r ∷ rs) row = rw (rows_text-more rs row) (sym (append_assoc (row_text default_writer r) (rows_text rs) (row_text default_writer row)))

joined_rows : (q : Query) (rows : List Cells) → joined (map text_of (map (with_text q) rows)) ≡ rows_text (reverse rows)
unfolding joined rows_text
joined_rows q [] = refl
joined_rows q (row ∷ before) =
    ap (λ (t : List ℕ). t ++ row_text default_writer row) (joined_rows q before)
    ∙ sym (rows_text-more (reverse before) row)
    ∙ ap rows_text (sym (reverse-append (row ∷ []) before))

-- the texts of the rows that stay are the text of these rows
pub joined_kept : (q : Query) (past : List Cells) → joined (map text_of (staying read q (written q past))) ≡ rows_text (kept_rows q past)
unfolding kept_rows
joined_kept q past =
    ap (λ (rows : List Written). joined (map text_of rows)) (staying_through (with_text q) read q (reverse past))
    ∙ joined_rows q (staying (event_of_cells q.declared) q (reverse past))

pub read_written : (q : Query) (rows : List Cells) → map read (map (with_text q) rows) ≡ map (event_of_cells q.declared) rows
read_written q [] = refl
read_written q (row ∷ rows) = ap (λ (rs : List Row). event_of_cells q.declared row ∷ rs) (read_written q rows)

-- a head and the rows that stay, as a run reads them
pub rows_in_place : (q : Query) (past : List Cells) (numbers : Cells) → map read (staying read q (written q past)) ++ Err BadTag ∷ [] ≡ rows_of q ((head_tag ∷ numbers) ∷ kept_rows q past)
unfolding kept_rows
rows_in_place q past numbers =
    let f : Cells → Row = event_of_cells q.declared in
    let left : List Cells = staying f q (reverse past) in
    ap (λ (rs : List Written). map read rs ++ Err BadTag ∷ []) (staying_through (with_text q) read q (reverse past))
    ∙ ap (λ (rs : List Row). rs ++ Err BadTag ∷ []) (read_written q left)
    ∙ sym (map-append f left ((head_tag ∷ numbers) ∷ []))
    ∙ ap (λ (rs : List Cells). map f (rs ++ (head_tag ∷ numbers) ∷ [])) (sym (reverse-reverse left))
    ∙ ap (map f) (sym (reverse-append ((head_tag ∷ numbers) ∷ []) (reverse left)))
