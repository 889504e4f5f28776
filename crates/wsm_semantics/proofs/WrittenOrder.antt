-- What is written in the order of places: what a test leaves out changes no order, and nor do keys under other numbers.
use Rattle.std.proofs.Common.{◌≡◌, Bool, true, false, cond, List, [], ◌∷◌, map, refl, sym, ap, ◌∙◌}
use Rattle.std.proofs.lemmas.Cmp.{upto}
use Rattle.std.specs.Prelude.{filter}
use Rattle.std.specs.List.{AllByRecursion}
use Rattle.std.specs.Ordering.{is_gt}
use Rattle.wsm_record.specs.declared.cell.Cell.{Cell}
use Rattle.wsm_windows.specs.declared.place.Place.{Place}
use Rattle.wsm_windows.specs.Places.{place_cmp}
use Rattle.wsm_windows.proofs.Places.{places_total}
use Rattle.wsm_semantics.specs.Retractions.{with_written, by_place}
use Rattle.wsm_semantics.proofs.Lists.{filter-all, all-each}
use Rattle.wsm_semantics.proofs.RowOrder.{not_behind}
use Rattle.wsm_semantics.proofs.Moves.{Moves, place_moved, places_moved}

abbrev pub Written : Type 0
Written = Place × List Cell

-- ---- in the order of places

-- the place is behind none of some
abbrev IsFirst : Place → List Written → Type 0
IsFirst p ws = AllByRecursion (λ w. is_gt (place_cmp p w.0) ≡ false) ws

abbrev AreInOrder : List Written → Type 0
AreInOrder [] = Unit {0}
AreInOrder (w ∷ ws) = IsFirst w.0 ws × AreInOrder ws

all_with : (P : Written → Type 0) (w : Written) (ws : List Written) → P w → AllByRecursion P ws → AllByRecursion P (with_written w ws)
all_with P w [] p all = (p, tt)
all_with P w (x ∷ xs) p all =
    elim (is_gt (place_cmp w.0 x.0)) as (λ b. AllByRecursion P (cond b (x ∷ with_written w xs) (w ∷ x ∷ xs))) [
      | true ↦ (all.0, all_with P w xs p all.1)
      | false ↦ (p, all)
    ]

stays_first : (p r : Place) (ws : List Written) → is_gt (place_cmp p r) ≡ false → IsFirst r ws → IsFirst p ws
stays_first p r ws h first = all-each (λ w. is_gt (place_cmp r w.0) ≡ false) (λ w. is_gt (place_cmp p w.0) ≡ false) ws (λ w k. upto places_total p r w.0 h k) first

in_order-with : (w : Written) (ws : List Written) → AreInOrder ws → AreInOrder (with_written w ws)
in_order-with w [] order = (tt, tt)
in_order-with w (x ∷ xs) order =
    elim (is_gt (place_cmp w.0 x.0)) as (λ b. is_gt (place_cmp w.0 x.0) ≡ b → AreInOrder (cond b (x ∷ with_written w xs) (w ∷ x ∷ xs))) [
      | true ↦ λ h. (all_with (λ y. is_gt (place_cmp x.0 y.0) ≡ false) w xs (not_behind places_total w.0 x.0 h) order.0, in_order-with w xs order.1)
      | false ↦ λ h. ((h, stays_first w.0 x.0 xs h order.0), order)
    ] refl

in_order-by_place : (ws : List Written) → AreInOrder (by_place ws)
in_order-by_place [] = tt
in_order-by_place (w ∷ ws) = in_order-with w (by_place ws) (in_order-by_place ws)

in_front : (w : Written) (ws : List Written) → IsFirst w.0 ws → with_written w ws ≡ w ∷ ws
in_front w [] first = refl
in_front w (x ∷ xs) first = ap (λ (b : Bool). cond b (x ∷ with_written w xs) (w ∷ x ∷ xs)) first.0

module _ (t : Written → Bool) where
  passes_with : (w : Written) (ws : List Written) → AreInOrder ws → t w ≡ true → filter t (with_written w ws) ≡ with_written w (filter t ws)
  passes_with w [] order here = ap (λ (b : Bool). cond b (w ∷ []) []) here
  passes_with w (x ∷ xs) order here =
      elim (is_gt (place_cmp w.0 x.0)) as (λ b. is_gt (place_cmp w.0 x.0) ≡ b → filter t (cond b (x ∷ with_written w xs) (w ∷ x ∷ xs)) ≡ with_written w (filter t (x ∷ xs))) [
        | true ↦ λ behind.
            let rest : filter t (with_written w xs) ≡ with_written w (filter t xs) = passes_with w xs order.1 here in
            elim (t x) as (λ c. cond c (x ∷ filter t (with_written w xs)) (filter t (with_written w xs)) ≡ with_written w (cond c (x ∷ filter t xs) (filter t xs))) [
              | true ↦ ap (λ (ys : List Written). x ∷ ys) rest ∙ sym (ap (λ (b : Bool). cond b (x ∷ with_written w (filter t xs)) (w ∷ x ∷ filter t xs)) behind)
              | false ↦ rest
            ]
        | false ↦ λ before.
            ap (λ (b : Bool). cond b (w ∷ filter t (x ∷ xs)) (filter t (x ∷ xs))) here
            ∙ sym (in_front w (filter t (x ∷ xs)) (filter-all (λ y. is_gt (place_cmp w.0 y.0) ≡ false) t (x ∷ xs) (before, stays_first w.0 x.0 xs before order.0)))
      ] refl

  left_out : (w : Written) (ws : List Written) → t w ≡ false → filter t (with_written w ws) ≡ filter t ws
  left_out w [] gone = ap (λ (b : Bool). cond b (w ∷ []) []) gone
  left_out w (x ∷ xs) gone =
      elim (is_gt (place_cmp w.0 x.0)) as (λ b. filter t (cond b (x ∷ with_written w xs) (w ∷ x ∷ xs)) ≡ filter t (x ∷ xs)) [
        | true ↦ ap (λ (ys : List Written). cond (t x) (x ∷ ys) ys) (left_out w xs gone)
        | false ↦ ap (λ (b : Bool). cond b (w ∷ filter t (x ∷ xs)) (filter t (x ∷ xs))) gone
      ]

  -- what is left out changes no order
  pub filter-by_place : (ws : List Written) → filter t (by_place ws) ≡ by_place (filter t ws)
  filter-by_place [] = refl
  filter-by_place (w ∷ ws) =
      elim (t w) as (λ b. t w ≡ b → filter t (with_written w (by_place ws)) ≡ by_place (cond b (w ∷ filter t ws) (filter t ws))) [
        | true ↦ λ here. passes_with w (by_place ws) (in_order-by_place ws) here ∙ ap (with_written w) (filter-by_place ws)
        | false ↦ λ gone. left_out w (by_place ws) gone ∙ filter-by_place ws
      ] refl

-- ---- under other numbers of keys

module _ (m : Moves) where
  abbrev pub written_moved : Written → Written
  written_moved w = (place_moved m w.0, w.1)

  with_moved : (w : Written) (ws : List Written) → with_written (written_moved w) (map written_moved ws) ≡ map written_moved (with_written w ws)
  with_moved w [] = refl
  with_moved w (x ∷ xs) =
      let rest : List Written = map written_moved xs in
      ap (λ o. cond (is_gt o) (written_moved x ∷ with_written (written_moved w) rest) (written_moved w ∷ written_moved x ∷ rest)) (places_moved m w.0 x.0)
      ∙ elim (is_gt (place_cmp w.0 x.0)) as (λ b. cond b (written_moved x ∷ with_written (written_moved w) rest) (written_moved w ∷ written_moved x ∷ rest) ≡ map written_moved (cond b (x ∷ with_written w xs) (w ∷ x ∷ xs))) [
        | true ↦ ap (λ (ys : List Written). written_moved x ∷ ys) (with_moved w xs)
        | false ↦ refl
      ]

  pub by_place-moved : (ws : List Written) → by_place (map written_moved ws) ≡ map written_moved (by_place ws)
  by_place-moved [] = refl
  by_place-moved (w ∷ ws) = ap (with_written (written_moved w)) (by_place-moved ws) ∙ with_moved w (by_place ws)
