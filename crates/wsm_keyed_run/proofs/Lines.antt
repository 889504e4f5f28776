-- The text of rows by names, one row after the other.
use Rattle.std.proofs.Common.{◌≡◌, ◌∙◌, ◌++◌, ◌∷◌, ℕ, List, [], refl, ap, append-nil}
use Rattle.wsm_semantics.specs.Lines.{lines_so_far, turn_lines, end_line}
use Rattle.wsm_semantics.specs.Text.{line_text}
use Rattle.wsm_semantics.specs.Query.{Query}
use Rattle.wsm_program.specs.Program.{Program}
use Rattle.wsm_part_programs.specs.Names.{of_names}
use Rattle.wsm_csv.specs.Cells.{event_of_cells}
use Rattle.wsm.specs.Written.{Cells, rows_of}
use Rattle.wsm.proofs.Texts.{rows_of-more}
use Rattle.wsm_keyed_told.specs.KeyedLines.{keyed_lines}
use Rattle.wsm_keyed_told.proofs.KeyedLines.{keyed_both}
use Rattle.wsm_keyed_run.specs.Keyed.{text_by, turns_by}

module _ (p : Program) (names : List (List ℕ)) where
  abbrev q : Query
  q = of_names p names

  pub turns_by-none : turns_by p names [] ≡ []
  unfolding turns_by
  turns_by-none = refl

  pub turns_by-more : (cells : List Cells) (c : Cells)
      → turns_by p names (cells ++ c ∷ []) ≡ turns_by p names cells ++ keyed_lines p.header.schema names (turn_lines q (rows_of q cells) (event_of_cells q.declared c))
  unfolding turns_by
  turns_by-more cells c =
      ap (λ rows. keyed_lines p.header.schema names (lines_so_far q rows)) (rows_of-more q cells c)
      ∙ keyed_both p.header.schema names (lines_so_far q (rows_of q cells)) (turn_lines q (rows_of q cells) (event_of_cells q.declared c))

  pub text_by-is : (cells : List Cells) → text_by p names cells ≡ turns_by p names cells ++ line_text p.header.schema (end_line q (rows_of q cells))
  unfolding turns_by text_by
  text_by-is cells =
      let last = end_line q (rows_of q cells) in
      keyed_both p.header.schema names (lines_so_far q (rows_of q cells)) (last ∷ [])
      ∙ ap (λ t. turns_by p names cells ++ t) (append-nil (line_text p.header.schema last))
