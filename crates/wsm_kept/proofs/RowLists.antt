-- Rows and their texts with one more.
use Rattle.std.proofs.Common.{◌≡◌, List, [], ◌∷◌, ◌++◌, length, map, reverse, ap, ◌∙◌}
use Rattle.std.proofs.lemmas.List.{length-map, length-reverse, reverse-append}
use Rattle.wsm_semantics.specs.Query.{Query}
use Rattle.wsm_csv.specs.Cells.{event_of_cells}
use Rattle.wsm_kept.specs.Kept.{Cells, rows_of, with_text, written}

pub rows_of-more : (q : Query) (past : List Cells) (row : Cells) → rows_of q (past ++ row ∷ []) ≡ event_of_cells q.declared row ∷ rows_of q past
rows_of-more q past row = ap (λ (rows : List Cells). map (event_of_cells q.declared) rows) (reverse-append past (row ∷ []))

pub written-more : (q : Query) (past : List Cells) (row : Cells) → written q (past ++ row ∷ []) ≡ with_text q row ∷ written q past
written-more q past row = ap (λ (rows : List Cells). map (with_text q) rows) (reverse-append past (row ∷ []))

pub length_rows : (q : Query) (past : List Cells) → length (rows_of q past) ≡ length past
length_rows q past = length-map (reverse past) (event_of_cells q.declared) ∙ length-reverse past
