-- The rows of engines as they are arranged: those of one part stand in order as they are.
use Rattle.std.proofs.Common.{◌≡◌, ◌≢◌, ℕ, zero, suc, ◌+◌, ◌<◌, ◌≤◌, Bool, true, false, cond, List, [], ◌∷◌, ◌++◌, length, map, Option, None, nat_eq, refl, sym, ap, subst, ◌∙◌, arith}
use Rattle.std.proofs.lemmas.Bool.{and_parts, eqb-true}
use Rattle.std.proofs.lemmas.List.{get_or_past}
use Rattle.std.proofs.lemmas.Bool.Decides.{nat_tests}
use Rattle.std.specs.Prelude.{◌&&◌, flat_map}
use Rattle.std.specs.List.{AllByRecursion, list_all, range_with_len}
use Rattle.wsm_semantics.specs.declared.out_row.OutRow.{OutRow}
use Rattle.wsm_semantics.specs.ByNumber.{row_by}
use Rattle.wsm_engine.specs.State.{State as EngineState}
use Rattle.wsm_key_parts.specs.Merged.{in_order}
use Rattle.wsm_part_engines.specs.declared.row_place.RowPlace.{RowPlace}
use Rattle.wsm_part_engines.specs.Fits.{engine_at, number_of}
use Rattle.wsm_part_engines.specs.Slots.{rows_of}
use Rattle.wsm_part_engines.specs.Ordered.{all_places, are_of, are_of_one, arranged, in_row_order, places_from, row_at}
use Rattle.wsm_part_engines.proofs.Parted.{flat_as_far, flat_one}
use Rattle.wsm_part_engines.proofs.TurnRows.{all_rows, is_own, numbered_order, rows_in_order}

itself : (n : ℕ) → nat_eq n n ≡ true
itself n = grind (arith, nat_tests)

module _ (own : ℕ) where
  both : (ps qs : List RowPlace) → are_of own (ps ++ qs) ≡ true → (are_of own ps ≡ true) × (are_of own qs ≡ true)
  both [] qs all = (refl, all)
  both (p ∷ ps) qs all =
      let parts = and_parts _ _ all in
      let rest = both ps qs parts.1 in
      ((λ i. parts.0 i && are_of own ps) ∙ rest.0, rest.1)

  none_here : (part : ℕ) (rows : List OutRow) → are_of own (places_from part 0 rows) ≡ true → part ≢ own → rows ≡ []
  none_here part [] all ne = refl
  none_here part (row ∷ rows) all ne = absurd (ne (eqb-true part own (and_parts _ _ all).0))

  -- the other parts have no rows
  none_other : (part : ℕ) (slots : List (Option EngineState)) → are_of own (all_places part slots) ≡ true → (k : ℕ) → part + k ≢ own → rows_of (engine_at slots k) ≡ []
  none_other part [] all k ne = ap rows_of (get_or_past {X = Option EngineState} [] k None (omega arith))
  none_other part (slot ∷ slots) all zero ne =
      none_here part (rows_of slot) (both (places_from part 0 (rows_of slot)) (all_places (part + 1) slots) all).0 (λ e. ne (let k : part + 0 ≡ own = omega (arith, e) in k))
  none_other part (slot ∷ slots) all (suc k) ne =
      none_other (part + 1) slots (both (places_from part 0 (rows_of slot)) (all_places (part + 1) slots) all).1 k (λ e. ne (let h : part + suc k ≡ own = omega (arith, e) in h))

module _ (block : ℕ) (slots : List (Option EngineState)) (own : (part : ℕ) → AllByRecursion (λ r. is_own block r ≡ true) (rows_of (engine_at slots part)))
    (still : (part : ℕ) → in_order (rows_of (engine_at slots part)) ≡ rows_of (engine_at slots part)) where
  abbrev numbered : ℕ → List OutRow
  numbered part = map (row_by (number_of block part)) (rows_of (engine_at slots part))

  abbrev together : List OutRow
  together = flat_map numbered (range_with_len 0 (length slots))

  of_part : (part : ℕ) → are_of part (all_places 0 slots) ≡ true → together ≡ numbered part
  of_part part all =
      flat_as_far numbered numbered 0 (length slots) (length slots + (part + 1)) (λ k h. refl)
      (λ k h. ap (λ (slot : Option EngineState). map (row_by (number_of block k)) (rows_of slot)) (get_or_past slots k None (omega (arith, h))))
      (λ k h. ap (λ (slot : Option EngineState). map (row_by (number_of block k)) (rows_of slot)) (get_or_past slots k None (omega (arith, h))))
      ∙ flat_one numbered part 0 (length slots + (part + 1)) (omega arith) (omega arith)
      (λ k ne. ap (map (row_by (number_of block k))) (none_other part 0 slots all k (λ e. ne (let h : k ≡ part = omega (arith, e) in h))))

  still_together : (ps : List RowPlace) → all_places 0 slots ≡ ps → are_of_one ps ≡ true → in_order together ≡ together
  still_together [] is one =
      let none : together ≡ [] = sym (all_rows block slots own) ∙ ap (map (row_at block slots)) is in
      ap in_order none ∙ sym none
  still_together (p ∷ ps) is one =
      let all : are_of p.part (all_places 0 slots) ≡ true = ap (are_of p.part) is ∙ (λ i. itself p.part i && one i) in
      let here : together ≡ numbered p.part = of_part p.part all in
      ap in_order here ∙ numbered_order block p.part (rows_of (engine_at slots p.part)) ∙ ap (map (row_by (number_of block p.part))) (still p.part) ∙ sym here

  pub rows_arranged : map (row_at block slots) (arranged (all_places 0 slots)) ≡ in_order together
  rows_arranged =
      elim (are_of_one (all_places 0 slots)) as (λ b. are_of_one (all_places 0 slots) ≡ b → map (row_at block slots) (cond b (all_places 0 slots) (in_row_order (all_places 0 slots))) ≡ in_order together) [
        | true ↦ λ one. all_rows block slots own ∙ sym (still_together (all_places 0 slots) refl one)
        | false ↦ λ _. rows_in_order block slots own
      ] refl
