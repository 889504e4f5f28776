-- Cells of names, byte by byte, and what is kept of them.
use Rattle.std.proofs.Common.{◌≡◌, ◌∙◌, ◌==◌, ◌+◌, ◌<◌, ◌++◌, ◌∷◌, [], ℕ, zero, suc, List, Bool, true, false, map, length, get_or, take, refl, sym, ap, append_assoc, inl, inr}
use Rattle.std.specs.Prelude.{Some, slice_get}
use Rattle.std.proofs.lemmas.Bool.{cases_Bool, eq-eqb, ne_eqb}
use Rattle.std.proofs.lemmas.List.{take_more}
use Rattle.wsm_semantics.specs.Text.{name_at}
use Rattle.wsm_key_names.specs.Cell.{cell_of, cells_of, doubled, kept_of, needs_quotes}

pub doubled_two : (b : ℕ) → b ≡ 34 → doubled (b ∷ []) ≡ 34 ∷ b ∷ []
unfolding doubled
doubled_two b e = rw (eq-eqb b 34 e) (ap (λ (x : ℕ). 34 ∷ x ∷ []) (sym e))

pub doubled_one : (b : ℕ) → (b ≡ 34 → ⊥) → doubled (b ∷ []) ≡ b ∷ []
unfolding doubled
doubled_one b n = rw (ne_eqb b 34 n) refl

doubled_behind : (xs ys : List ℕ) → doubled (xs ++ ys) ≡ doubled xs ++ doubled ys
unfolding doubled
doubled_behind [] ys = refl
doubled_behind (x ∷ xs) ys = elim (cases_Bool (x == 34)) [
  | inl is ↦ rw (is, doubled_behind xs ys) refl
  | inr other ↦ rw (other, doubled_behind xs ys) refl
]

-- one more byte behind a quote
pub doubled_more : (old text : List ℕ) (i : ℕ) → i < length text
    → (old ++ (34 ∷ doubled (take i text))) ++ doubled (get_or text i 0 ∷ []) ≡ old ++ (34 ∷ doubled (take (i + 1) text))
doubled_more old text i within =
    append_assoc old (34 ∷ doubled (take i text)) (doubled (get_or text i 0 ∷ []))
    ∙ ap (λ (t : List ℕ). old ++ (34 ∷ t)) (sym (doubled_behind (take i text) (get_or text i 0 ∷ [])) ∙ ap doubled (sym (take_more text i 0 within)))

-- ---- what is kept

abbrev is_some_text : List ℕ → Bool
is_some_text [] = false
is_some_text (b ∷ bs) = true

kept_is_cell : (text : List ℕ) → is_some_text (kept_of text) ≡ true → cell_of text ≡ kept_of text
kept_is_cell text some = elim (cases_Bool (needs_quotes text)) [
  | inl needs ↦ rw needs refl
  | inr plain ↦ cc (rw plain at some)
]

nothing_kept : (text : List ℕ) → kept_of text ≡ [] → cell_of text ≡ text
nothing_kept text none = elim (cases_Bool (needs_quotes text)) [
  | inl needs ↦ cc (rw needs at none)
  | inr plain ↦ rw plain refl
]

some_text : (text : List ℕ) → ((length text == 0) ≡ false) → is_some_text text ≡ true
some_text [] e = cc e
some_text (b ∷ bs) e = refl

no_text : (text : List ℕ) → ((length text == 0) ≡ true) → text ≡ []
no_text [] e = refl
no_text (b ∷ bs) e = absurd (cc (sym e ∙ ne_eqb (suc (length bs)) 0 (λ z. cc z)))

module _ {V : Type 0} (items : V → List ℕ) where
  -- the cell that is kept at a place is that of the name
  pub cell_kept : (keys cells : List V) (i : ℕ) (c : V) → map items cells ≡ map (λ v. kept_of (items v)) keys → slice_get cells i ≡ Some c → (length (items c) == 0) ≡ false
      → name_at (cells_of (map items keys)) i ≡ items c
  cell_kept [] [] i c e at some = cc at
  cell_kept [] (x ∷ xs) i c e at some = cc e
  cell_kept (k ∷ ks) [] i c e at some = cc e
  cell_kept (k ∷ ks) (x ∷ xs) zero c e at some =
      let same : items c ≡ kept_of (items k) = cc in
      kept_is_cell (items k) (rw same at (some_text (items c) some)) ∙ sym same
  cell_kept (k ∷ ks) (x ∷ xs) (suc i) c e at some =
      let rest : map items xs ≡ map (λ v. kept_of (items v)) ks = cc in
      cell_kept ks xs i c rest at some

  -- and where none is kept it is the name
  pub cell_bare : (keys cells : List V) (i : ℕ) (c : V) → map items cells ≡ map (λ v. kept_of (items v)) keys → slice_get cells i ≡ Some c → (length (items c) == 0) ≡ true
      → name_at (cells_of (map items keys)) i ≡ name_at (map items keys) i
  cell_bare [] [] i c e at none = cc at
  cell_bare [] (x ∷ xs) i c e at none = cc e
  cell_bare (k ∷ ks) [] i c e at none = cc e
  cell_bare (k ∷ ks) (x ∷ xs) zero c e at none =
      let same : items c ≡ kept_of (items k) = cc in
      nothing_kept (items k) (sym same ∙ no_text (items c) none)
  cell_bare (k ∷ ks) (x ∷ xs) (suc i) c e at none =
      let rest : map items xs ≡ map (λ v. kept_of (items v)) ks = cc in
      cell_bare ks xs i c rest at none
