-- Lists: what filters and tables with other values give.
use Rattle.std.proofs.Common.{◌≡◌, suc, Bool, true, false, ◌||◌, cond, List, [], ◌∷◌, map, length, Option, None, refl, sym, ap, subst, ◌∙◌}
use Rattle.std.proofs.lemmas.Bool.{true≢false}
use Rattle.std.specs.Prelude.{filter, filter_map}
use Rattle.std.specs.List.{AllByRecursion, list_any}
use Rattle.std.specs.declared.cmp.Ordering.{Ordering}
use Rattle.std.specs.declared.cmp.Ordering.TheVariants.{Less, Equal, Greater}
use Rattle.std.specs.FinMap.Entries.{put, by_order}

-- a list with a first element
abbrev pub IsNonEmpty : {A : Type 0} → List A → Type 0
IsNonEmpty {A} xs = (x : A) × (rest : List A) × (xs ≡ x ∷ rest)

module _ {A : Type 0} where
  pub none_pass : (t : A → Bool) (xs : List A) → list_any t xs ≡ false → filter t xs ≡ []
  none_pass t [] h = refl
  none_pass t (x ∷ xs) h =
      elim (t x) as (λ b. (b || list_any t xs) ≡ false → cond b (x ∷ filter t xs) (filter t xs) ≡ []) [
        | true ↦ λ k. absurd (true≢false k)
        | false ↦ λ k. none_pass t xs k
      ] h

  pub some_pass : (t : A → Bool) (xs : List A) → list_any t xs ≡ true → IsNonEmpty (filter t xs)
  some_pass t [] h = absurd (true≢false (sym h))
  some_pass t (x ∷ xs) h =
      elim (t x) as (λ b. (b || list_any t xs) ≡ true → IsNonEmpty (cond b (x ∷ filter t xs) (filter t xs))) [
        | true ↦ λ k. (x, filter t xs, refl)
        | false ↦ λ k. some_pass t xs k
      ] h

  -- what passes the narrower test passes the wider
  pub filter_within : (p r : A → Bool) → ((x : A) → p x ≡ true → r x ≡ true) → (xs : List A) → filter p (filter r xs) ≡ filter p xs
  filter_within p r h [] = refl
  filter_within p r h (x ∷ xs) =
      elim (r x) as (λ b. r x ≡ b → filter p (cond b (x ∷ filter r xs) (filter r xs)) ≡ cond (p x) (x ∷ filter p xs) (filter p xs)) [
        | true ↦ λ k. ap (λ (ys : List A). cond (p x) (x ∷ ys) ys) (filter_within p r h xs)
        | false ↦ λ k. filter_within p r h xs ∙ elim (p x) as (λ b. p x ≡ b → filter p xs ≡ cond b (x ∷ filter p xs) (filter p xs)) [
          | true ↦ λ l. absurd (true≢false (sym (h x l) ∙ k))
          | false ↦ λ l. refl
        ] refl
      ] refl

  pub filter_same : (p r : A → Bool) → ((x : A) → p x ≡ r x) → (xs : List A) → filter p xs ≡ filter r xs
  filter_same p r h [] = refl
  filter_same p r h (x ∷ xs) = λ i. cond (h x i) (x ∷ filter_same p r h xs i) (filter_same p r h xs i)

  module _ (P : A → Type 0) where
    pub filter-all : (t : A → Bool) (xs : List A) → AllByRecursion P xs → AllByRecursion P (filter t xs)
    filter-all t [] h = tt
    filter-all t (x ∷ xs) h =
        elim (t x) as (λ b. AllByRecursion P (cond b (x ∷ filter t xs) (filter t xs))) [
          | true ↦ (h.0, filter-all t xs h.1)
          | false ↦ filter-all t xs h.1
        ]

    pub all-each : (Q : A → Type 0) (xs : List A) → ((x : A) → P x → Q x) → AllByRecursion P xs → AllByRecursion Q xs
    all-each Q [] f h = tt
    all-each Q (x ∷ xs) f h = (f x h.0, all-each Q xs f h.1)

module _ {A B : Type 0} where
  pub length_each : (f : A → B) (xs : List A) → length (map f xs) ≡ length xs
  length_each f [] = refl
  length_each f (x ∷ xs) = ap suc (length_each f xs)

  pub filter_map_none : (g : A → Option B) (xs : List A) → ((x : A) → g x ≡ None) → filter_map g xs ≡ []
  filter_map_none g [] h = refl
  filter_map_none g (x ∷ xs) h = rw (h x) (filter_map_none g xs h)

module _ {K A : Type 0} (R : K → K → Ordering) (same : (x y : K) → R x y ≡ Equal → x ≡ y) (P : K × A → Type 0) where
  pub put-all : (k : K) (v : A) (es : List (K × A)) → P (k, v) → AllByRecursion P es → AllByRecursion P (put R k v es)
  put-all k v [] h t = (h, tt)
  put-all k v (e ∷ es) h t =
      elim (R k e.0) as (λ o. R k e.0 ≡ o → AllByRecursion P (by_order o ((k, v) ∷ e ∷ es) ((e.0, v) ∷ es) (e ∷ put R k v es))) [
        | Less ↦ λ less. (h, t)
        | Equal ↦ λ tie. (subst (λ (x : K). P (x, v)) (same k e.0 tie) h, t.1)
        | Greater ↦ λ more. (t.0, put-all k v es h t.1)
      ] refl
