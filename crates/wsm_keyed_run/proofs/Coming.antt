-- Names that come: those that are there stay where they are, and what was read by them is what is read by all.
use Rattle.std.proofs.Common.{◌≡◌, ◌∙◌, ◌++◌, ◌∷◌, ◌&&◌, ℕ, true, false, cond, List, [], length, map, reverse, bytes_eq, Option, Some, None, refl, sym, ap, append_assoc, append-nil}
use Rattle.std.specs.Prelude.{is_ok, nat_lt}
use Rattle.std.specs.List.{list_any}
use Rattle.wsm_record.specs.Schema.{Declared}
use Rattle.wsm_csv.specs.Cells.{event_of_cells}
use Rattle.wsm_key_parts.specs.Names.{with_name}
use Rattle.wsm_key_names.specs.Names.{is_key_name, learned}
use Rattle.wsm_key_names.specs.Reading.{by_names, key_cell, learned_of, names_after, names_after_rows, read_in_turn}
use Rattle.wsm_key_names.proofs.LearnedNames.{stays_read}
use Rattle.wsm_part_programs.specs.Names.{of_names}
use Rattle.wsm.specs.Written.{Cells, rows_of}
use Rattle.wsm_keyed_run.specs.Keyed.{Keyed, names_of, query_behind}

-- there are more names behind some
abbrev pub Grows : List (List ℕ) → List (List ℕ) → Type 0
Grows names all = (more : List (List ℕ)) × (all ≡ names ++ more)

grows_none : (names : List (List ℕ)) → Grows names names
grows_none names = ([], sym (append-nil names))

name_grows : (names : List (List ℕ)) (text : List ℕ) → Grows names (with_name names text)
name_grows names text = elim (list_any (bytes_eq text) names) as (λ b. Grows names (cond b names (names ++ text ∷ []))) [
  | true ↦ grows_none names
  | false ↦ (text ∷ [], refl)
]

learned_grows : (most : ℕ) (names : List (List ℕ)) (text : List ℕ) → Grows names (learned most names text)
learned_grows most names text = elim (is_key_name text && nat_lt (length names) most) as (λ b. Grows names (cond b (with_name names text) names)) [
  | true ↦ name_grows names text
  | false ↦ grows_none names
]

cell_grows : (most : ℕ) (names : List (List ℕ)) (cell : Option (List ℕ)) → Grows names (learned_of most names cell)
cell_grows most names None = grows_none names
cell_grows most names (Some text) = learned_grows most names text

row_grows : (most : ℕ) (d : Declared) (names : List (List ℕ)) (cells : Cells) → Grows names (names_after most d names cells)
row_grows most d names cells = elim (is_ok (event_of_cells d cells)) as (λ b. Grows names (cond b (learned_of most names (key_cell cells)) names)) [
  | true ↦ cell_grows most names (key_cell cells)
  | false ↦ grows_none names
]

rows_grow : (most : ℕ) (d : Declared) (names : List (List ℕ)) (rows : List Cells) → Grows names (names_after_rows most d names rows)
rows_grow most d names [] = grows_none names
rows_grow most d names (cells ∷ rows) =
    let first = row_grows most d names cells in
    let rest = rows_grow most d (names_after most d names cells) rows in
    (first.0 ++ rest.0, rest.1 ∙ ap (λ (ns : List (List ℕ)). ns ++ rest.0) first.1 ∙ append_assoc names first.0 rest.0)

-- rows behind rows
after_both : (most : ℕ) (d : Declared) (names : List (List ℕ)) (cells later : List Cells) → names_after_rows most d names (cells ++ later) ≡ names_after_rows most d (names_after_rows most d names cells) later
after_both most d names [] later = refl
after_both most d names (c ∷ cells) later = after_both most d (names_after most d names c) cells later

-- what rows say by all names that ever come
said_in_turn : (most : ℕ) (d : Declared) (names : List (List ℕ)) (cells later : List Cells)
    → map (event_of_cells (by_names (names_after_rows most d names (cells ++ later)) d)) cells ≡ read_in_turn most d names cells
said_in_turn most d names [] later = refl
said_in_turn most d names (c ∷ cells) later = λ i. stays_read most d names c (cells ++ later) i ∷ said_in_turn most d (names_after most d names c) cells later i

module _ (k : Keyed) where
  pub names_behind : (cells later : List Cells) → Grows (names_of k cells) (names_of k (cells ++ later))
  names_behind cells later =
      let d = k.program.header.schema in
      let grows = rows_grow k.most d (names_of k cells) later in
      (grows.0, after_both k.most d k.names cells later ∙ grows.1)

  -- the names once one row more came
  pub names_more : (cells : List Cells) (c : Cells) → names_of k (cells ++ c ∷ []) ≡ names_after k.most k.program.header.schema (names_of k cells) c
  names_more cells c = after_both k.most k.program.header.schema k.names cells (c ∷ [])

  -- what rows say stays what they say
  pub rows_stay : (cells later : List Cells) → rows_of (of_names k.program (names_of k (cells ++ later))) cells ≡ rows_of (query_behind k cells) cells
  rows_stay cells later =
      let d = k.program.header.schema in
      ap reverse (
      said_in_turn k.most d k.names cells later
      ∙ sym (said_in_turn k.most d k.names cells [])
      ∙ ap (λ (all : List Cells). map (event_of_cells (by_names (names_of k all) d)) cells) (append-nil cells))

  -- and so does what one row says
  pub row_stays : (cells : List Cells) (c : Cells) (later : List Cells)
      → event_of_cells (by_names (names_of k ((cells ++ c ∷ []) ++ later)) k.program.header.schema) c ≡ event_of_cells (by_names (names_of k (cells ++ c ∷ [])) k.program.header.schema) c
  row_stays cells c later =
      let d = k.program.header.schema in
      ap (λ (ns : List (List ℕ)). event_of_cells (by_names ns d) c) (ap (names_of k) (append_assoc cells (c ∷ []) later) ∙ after_both k.most d k.names cells (c ∷ later))
      ∙ stays_read k.most d (names_of k cells) c later
      ∙ ap (λ (ns : List (List ℕ)). event_of_cells (by_names ns d) c) (sym (names_more cells c))
