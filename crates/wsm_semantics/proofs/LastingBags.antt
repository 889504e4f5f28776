-- The bags of what was written of some panes: as they fire, what they fire comes to what stood for them,
-- and what stands afterwards and is withdrawn is what stood and what fired.
use Rattle.std.proofs.Common.{◌≡◌, ℕ, true, false, cond, List, [], ◌∷◌, ◌++◌, Option, Some, None, is_some, sym, subst, append_assoc}
use Rattle.std.proofs.lemmas.List.Sorted.{IsPermutation-refl, IsPermutation-cons, IsPermutation-middle, IsPermutation-trans, IsPermutation-sym, IsPermutation-append_comm, IsPermutation-append_left, IsPermutation-append_right}
use Rattle.std.specs.Prelude.{IsPermutation, filter_map}
use Rattle.std.specs.List.{cons_option}
use Rattle.std.specs.Ordering.{is_gt}
use Rattle.wsm_record.specs.declared.cell.Cell.{Cell}
use Rattle.wsm_windows.specs.declared.window.PaneKind.{PaneKind}
use Rattle.wsm_windows.specs.declared.place.Place.{Place}
use Rattle.wsm_windows.specs.Places.{place_cmp}
use Rattle.wsm_semantics.specs.Query.{Query}
use Rattle.wsm_semantics.specs.Firings.{firing_of, firing_set}
use Rattle.wsm_semantics.specs.Retractions.{written_of, with_written, by_place}
use Rattle.wsm_semantics.specs.Kept.{Kept, fires, fired_kept, all_fired, written_by, withdrawn_firing}

module _ {A : Type 0} where
  pub same_bag : (xs ys : List A) → xs ≡ ys → IsPermutation xs ys
  same_bag xs ys h = subst (IsPermutation xs) h (IsPermutation-refl xs)

  -- the first of two lists with something in front
  pub first_with : (o : Option A) (xs ys zs : List A) → IsPermutation (xs ++ ys) zs → IsPermutation (cons_option o xs ++ ys) (cons_option o zs)
  first_with None xs ys zs h = h
  first_with (Some x) xs ys zs h = IsPermutation-cons x (xs ++ ys) zs h

  -- and the second
  pub second_with : (o : Option A) (xs ys zs : List A) → IsPermutation (xs ++ ys) zs → IsPermutation (xs ++ cons_option o ys) (cons_option o zs)
  second_with None xs ys zs h = h
  second_with (Some x) xs ys zs h = IsPermutation-trans (xs ++ x ∷ ys) (x ∷ (xs ++ ys)) (x ∷ zs) (IsPermutation-middle xs x ys) (IsPermutation-cons x (xs ++ ys) zs h)

  -- what stood, with what fired, is what is withdrawn, with what stands; and so with others before
  pub sum_up : (ds ss fs ws ns : List A) → IsPermutation (ss ++ fs) (ws ++ ns) → IsPermutation ((ds ++ ss) ++ fs) (ws ++ (ds ++ ns))
  sum_up ds ss fs ws ns h =
      subst (λ (xs : List A). IsPermutation xs (ws ++ (ds ++ ns))) (sym (append_assoc ds ss fs))
      (IsPermutation-trans (ds ++ (ss ++ fs)) (ds ++ (ws ++ ns)) (ws ++ (ds ++ ns))
      (IsPermutation-append_right ds (ss ++ fs) (ws ++ ns) h)
      (subst (λ (xs : List A). IsPermutation xs (ws ++ (ds ++ ns))) (append_assoc ds ws ns)
      (subst (IsPermutation ((ds ++ ws) ++ ns)) (append_assoc ws ds ns)
      (IsPermutation-append_left ns (ds ++ ws) (ws ++ ds) (IsPermutation-append_comm ds ws)))))

-- ---- in the order of places

inserted : (w : Place × List Cell) (ws : List (Place × List Cell)) → IsPermutation (w ∷ ws) (with_written w ws)
inserted w [] = IsPermutation-refl (w ∷ [])
inserted w (x ∷ xs) =
    elim (is_gt (place_cmp w.0 x.0)) as (λ b. IsPermutation (w ∷ x ∷ xs) (cond b (x ∷ with_written w xs) (w ∷ x ∷ xs))) [
      | true ↦
          IsPermutation-trans (w ∷ x ∷ xs) (x ∷ w ∷ xs) (x ∷ with_written w xs) (IsPermutation-middle (w ∷ []) x xs) (IsPermutation-cons x (w ∷ xs) (with_written w xs) (inserted w xs))
      | false ↦ IsPermutation-refl (w ∷ x ∷ xs)
    ]

pub by_place_bag : (ws : List (Place × List Cell)) → IsPermutation ws (by_place ws)
by_place_bag [] = IsPermutation-refl []
by_place_bag (w ∷ ws) =
    IsPermutation-trans (w ∷ ws) (w ∷ by_place ws) (with_written w (by_place ws)) (IsPermutation-cons w ws (by_place ws) (by_place_bag ws)) (inserted w (by_place ws))

-- ---- panes that fire

module _ {A : Type 0} where
  -- one more that stays, or that goes for another
  quiet : (before : Option A) (olds news goes stays : List A) → IsPermutation (olds ++ news) (goes ++ stays) → IsPermutation (cons_option before olds ++ news) (goes ++ cons_option before stays)
  quiet before olds news goes stays h =
      IsPermutation-trans (cons_option before olds ++ news) (cons_option before (goes ++ stays)) (goes ++ cons_option before stays)
      (first_with before olds news (goes ++ stays) h)
      (IsPermutation-sym (goes ++ cons_option before stays) (cons_option before (goes ++ stays)) (second_with before goes stays (goes ++ stays) (IsPermutation-refl (goes ++ stays))))

  loud : (before now : Option A) (olds news goes stays : List A) → IsPermutation (olds ++ news) (goes ++ stays) →
      IsPermutation (cons_option before olds ++ cons_option now news) (cons_option before goes ++ cons_option now stays)
  loud before now olds news goes stays h =
      let whole : List A = cons_option before (cons_option now (goes ++ stays)) in
      IsPermutation-trans (cons_option before olds ++ cons_option now news) whole (cons_option before goes ++ cons_option now stays)
      (first_with before olds (cons_option now news) (cons_option now (goes ++ stays)) (second_with now olds news (goes ++ stays) h))
      (IsPermutation-sym (cons_option before goes ++ cons_option now stays) whole
      (first_with before goes (cons_option now stays) (cons_option now (goes ++ stays)) (second_with now goes stays (goes ++ stays) (IsPermutation-refl (goes ++ stays)))))

-- what was written of the firings that stand for panes
abbrev pub stood : Query → List (Place × Kept) → List (Place × List Cell)
stood q panes = filter_map (λ e. written_by q e.0 e.1.stands) panes

module _ (q : Query) (n : ℕ) (kind : Place → Kept → Option PaneKind) where
  -- what stood for panes, and what they fire, is what they withdraw and what stands for them then
  pub fired_bag : (es : List (Place × Kept)) → IsPermutation (stood q es ++ filter_map (written_of q) (fires q n kind es)) (withdrawn_firing q kind es ++ stood q (all_fired q kind es))
  fired_bag [] = IsPermutation-refl []
  fired_bag (e ∷ es) =
      let before : Option (Place × List Cell) = written_by q e.0 e.1.stands in
      let olds : List (Place × List Cell) = stood q es in
      let news : List (Place × List Cell) = filter_map (written_of q) (fires q n kind es) in
      let goes : List (Place × List Cell) = withdrawn_firing q kind es in
      let stays : List (Place × List Cell) = stood q (all_fired q kind es) in
      let rest : IsPermutation (olds ++ news) (goes ++ stays) = fired_bag es in
      elim (kind e.0 e.1) as (λ o. IsPermutation
      (cons_option before olds ++ filter_map (written_of q) (cons_option (firing_of n e.0 e.1.all (firing_set q.mode e.1.all e.1.unshown) o) (fires q n kind es)))
      (cons_option (cond (is_some o) before None) goes ++ cons_option (written_by q e.0 (fired_kept q.mode e.0 o e.1).stands) stays)) [
        | None ↦ quiet before olds news goes stays rest
        | Some k ↦ loud before (written_of q (record { turn = n; kind = k; place = e.0; contents = e.1.all; fired = firing_set q.mode e.1.all e.1.unshown })) olds news goes stays rest
      ]
