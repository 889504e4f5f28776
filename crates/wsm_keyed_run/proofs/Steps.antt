-- One row more: what is kept, and the text.
use Rattle.std.proofs.Common.{◌≡◌, ◌∙◌, ◌++◌, ◌∷◌, ℕ, List, [], Option, sym, ap, subst, append_assoc, append-nil}
use Rattle.std.specs.Io.KnownBytes.{Appends}
use Rattle.wsm_semantics.specs.Lines.{turn_lines}
use Rattle.wsm_semantics.specs.Text.{line_text}
use Rattle.wsm_semantics.specs.declared.ending.Totals.{Totals}
use Rattle.wsm_csv.specs.Cells.{event_of_cells}
use Rattle.wsm_csv.specs.Device.{TakesPart}
use Rattle.wsm_csv.proofs.Written.{Appends-join, Appends-start, TakesPart-last}
use Rattle.wsm_part_programs.specs.Names.{of_names}
use Rattle.wsm_key_names.specs.Reading.{by_names}
use Rattle.wsm.specs.Written.{Cells, rows_of}
use Rattle.wsm_keyed_run.specs.declared.turns.KeyedTurns.{KeyedTurns}
use Rattle.wsm_keyed_told.specs.KeyedLines.{keyed_lines}
use Rattle.wsm_keyed_run.specs.Keyed.{Keyed, input_text, names_of, query_behind, turns_by, turns_text}
use Rattle.wsm_keyed_run.specs.Turns.{Ends, Fits, IsTextOf, Stands, Turned}
use Rattle.wsm_keyed_run.proofs.Coming.{names_behind, rows_stay, row_stays}
use Rattle.wsm_keyed_run.proofs.Lines.{text_by-is, turns_by-more, turns_by-none}

module _ (k : Keyed) where
  -- the text of the names so far
  pub text_now : (cells : List Cells) (bytes : List ℕ) → IsTextOf k cells bytes → bytes ≡ turns_text k cells
  text_now cells bytes is = is [] ∙ ap (λ (all : List Cells). turns_by k.program (names_of k all) cells) (append-nil cells)

  pub text_none : IsTextOf k [] []
  text_none later = sym (turns_by-none k.program (names_of k later))

  -- lines that are those of the turn of a row by all names that may come are its text
  pub text_more : (cells : List Cells) (c : Cells) (lines : List ℕ)
      → ((more : List (List ℕ)) → let names = names_of k (cells ++ c ∷ []) ++ more in
      lines ≡ keyed_lines k.program.header.schema names (turn_lines (of_names k.program names) (rows_of (query_behind k cells) cells)
      (event_of_cells (by_names (names_of k (cells ++ c ∷ [])) k.program.header.schema) c)))
      → (bytes : List ℕ) → IsTextOf k cells bytes → IsTextOf k (cells ++ c ∷ []) (bytes ++ lines)
  text_more cells c lines are bytes is later =
      let all = names_of k ((cells ++ c ∷ []) ++ later) in
      let grows = names_behind k (cells ++ c ∷ []) later in
      let d = k.program.header.schema in
      let same : names_of k (cells ++ (c ∷ later)) ≡ all = ap (names_of k) (sym (append_assoc cells (c ∷ []) later)) in
      let before : rows_of (of_names k.program all) cells ≡ rows_of (query_behind k cells) cells =
      ap (λ (ns : List (List ℕ)). rows_of (of_names k.program ns) cells) (sym same) ∙ rows_stay k cells (c ∷ later) in
      let row : event_of_cells (by_names all d) c ≡ event_of_cells (by_names (names_of k (cells ++ c ∷ [])) d) c = row_stays k cells c later in
      let first : bytes ≡ turns_by k.program all cells = is (c ∷ later) ∙ ap (λ (ns : List (List ℕ)). turns_by k.program ns cells) same in
      let second : lines ≡ keyed_lines d all (turn_lines (of_names k.program all) (rows_of (of_names k.program all) cells) (event_of_cells (by_names all d) c)) =
      are grows.0 ∙ (λ i. keyed_lines d (sym grows.1 i) (turn_lines (of_names k.program (sym grows.1 i)) (sym before i) (sym row i))) in
      (λ i. first i ++ second i) ∙ sym (turns_by-more k.program all cells c)

  -- before the first row
  pub Stands-start : (known : Option (List ℕ)) (t : KeyedTurns) → Fits k t [] → Stands k [] known known t
  Stands-start known t fits = record { fits = fits; bytes = []; is = text_none; text = Appends-start known }

  -- one turn more, whose lines are taken
  pub Stands-next : (cells : List Cells) (c : Cells) (old now new : Option (List ℕ)) (t t' : KeyedTurns) → Stands k cells old now t → Turned k t' cells c
      → Appends now new t'.lines.items → Stands k (cells ++ c ∷ []) old new t'
  Stands-next cells c old now new t t' stands turned taken = record {
    fits = turned.fits;
    bytes = stands.bytes ++ t'.lines.items;
    is = turned.lines stands.bytes stands.is;
    text = Appends-join old now new stands.bytes t'.lines.items stands.text taken;
  }

  -- one turn more, of whose lines not all were taken
  pub TakesPart-next : (cells : List Cells) (c : Cells) (old now new : Option (List ℕ)) (t t' : KeyedTurns) → Stands k cells old now t → Turned k t' cells c
      → TakesPart now new t'.lines.items → TakesPart old new (turns_text k (cells ++ c ∷ []))
  TakesPart-next cells c old now new t t' stands turned part =
      subst (TakesPart old new) (text_now (cells ++ c ∷ []) (stands.bytes ++ t'.lines.items) (turned.lines stands.bytes stands.is))
      (TakesPart-last old now new stands.bytes t'.lines.items stands.text part)

  -- what was written is the text of the turns
  pub Stands-text : (cells : List Cells) (old now : Option (List ℕ)) (t : KeyedTurns) → Stands k cells old now t → Appends old now (turns_text k cells)
  Stands-text cells old now t stands = subst (Appends old now) (text_now cells stands.bytes stands.is) stands.text

  -- the text with the last line
  pub last_text : (cells : List Cells) (old now : Option (List ℕ)) (t t' : KeyedTurns) (totals : Totals) → (stands : Stands k cells old now t) → Ends k t' cells totals
      → stands.bytes ++ t'.lines.items ≡ input_text k cells
  last_text cells old now t t' totals stands ends =
      (λ i. text_now cells stands.bytes stands.is i ++ ends.lines i)
      ∙ ap (λ line. turns_text k cells ++ line_text k.program.header.schema line) ends.numbers
      ∙ sym (text_by-is k.program (names_of k cells) cells)
