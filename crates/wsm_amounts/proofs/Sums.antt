-- Sums of whole numbers: over bags, over what options give, by tests, and over tables.
use Rattle.std.proofs.Common.{◌≡◌, ℕ, suc, ◌+◌, Bool, true, false, ◌||◌, cond, not, List, [], ◌∷◌, map, ℤ, pos, negsuc, ◌+ℤ◌, ◌-ℤ◌, Option, Some, None, refl, sym, ap, ◌∙◌, arith}
use Rattle.std.proofs.lemmas.Int.{ints}
use Rattle.std.proofs.lemmas.List.Sums.{sum_by-cons}
use Rattle.std.proofs.lemmas.List.Sorted.{sum_by-IsPermutation}
use Rattle.std.specs.Prelude.{IsPermutation, filter, filter_map}
use Rattle.std.specs.List.{AllByRecursion, cons_option, list_any, sum_by}
use Rattle.wsm_windows.specs.declared.place.Place.{Place}
use Rattle.wsm_semantics.specs.Amounts.{sum_of}
use Rattle.wsm_semantics.proofs.Lists.{all-each}
use Rattle.wsm_semantics.proofs.Each.{all-any, all_of}
use Rattle.wsm_semantics.proofs.StandsTurn.{AreDistinct}
use Rattle.wsm_semantics.proofs.Sums.{none_more, one_alone, sum_of-each, sum_of-none, sum_of-plus}

-- ---- over bags

abbrev over : ℤ → ℕ
over (pos n) = n
over (negsuc n) = 0

abbrev under : ℤ → ℕ
under (pos n) = 0
under (negsuc n) = suc n

apart : (z : ℤ) → z ≡ (pos (over z) -ℤ pos (under z))
apart (pos n) = omega (arith, ints)
apart (negsuc n) = omega (arith, ints)

both_parts : (z s : ℤ) (a b m n k l : ℕ) → z ≡ (pos a -ℤ pos b) → s ≡ (pos m -ℤ pos n) → k ≡ a + m → l ≡ b + n → (z +ℤ s) ≡ (pos k -ℤ pos l)
both_parts z s a b m n k l e f g h = omega (arith, ints)

module _ {A : Type 0} (f : A → ℤ) where
  abbrev overs : A → ℕ
  overs x = over (f x)

  abbrev unders : A → ℕ
  unders x = under (f x)

  by_parts : (xs : List A) → sum_of f xs ≡ (pos (sum_by overs xs) -ℤ pos (sum_by unders xs))
  by_parts [] = refl
  by_parts (x ∷ xs) =
      both_parts (f x) (sum_of f xs) (overs x) (unders x) (sum_by overs xs) (sum_by unders xs) (sum_by overs (x ∷ xs)) (sum_by unders (x ∷ xs))
      (apart (f x)) (by_parts xs) (sum_by-cons overs x xs) (sum_by-cons unders x xs)

  pub sum_of-bag : (xs ys : List A) → IsPermutation xs ys → sum_of f xs ≡ sum_of f ys
  sum_of-bag xs ys h =
      by_parts xs
      ∙ sym (λ i. pos (sum_by-IsPermutation overs xs ys h i) -ℤ pos (sum_by-IsPermutation unders xs ys h i))
      ∙ sym (by_parts ys)

-- ---- over what options give

abbrev pub given : {B : Type 0} → (B → ℤ) → Option B → ℤ
given v None = pos 0
given v (Some y) = v y

pub sum_of-given : {A B : Type 0} (v : B → ℤ) (g : A → Option B) (xs : List A) → sum_of v (filter_map g xs) ≡ sum_of (λ x. given v (g x)) xs
sum_of-given v g [] = refl
sum_of-given v g (x ∷ xs) =
    elim (g x) as (λ o. sum_of v (cons_option o (filter_map g xs)) ≡ given v o +ℤ sum_of (λ x. given v (g x)) xs) [
      | None ↦ sum_of-given v g xs ∙ sym (none_more (sum_of (λ x. given v (g x)) xs))
      | Some y ↦ ap (λ (s : ℤ). v y +ℤ s) (sum_of-given v g xs)
    ]

-- ---- by tests

in_front : (a b c d : ℤ) → (b +ℤ c) ≡ d → ((a +ℤ b) +ℤ c) ≡ (a +ℤ d)
in_front a b c d h = omega (arith, ints)

between : (a b c d : ℤ) → (b +ℤ c) ≡ d → (b +ℤ (a +ℤ c)) ≡ (a +ℤ d)
between a b c d h = omega (arith, ints)

module _ {A : Type 0} (f : A → ℤ) where
  -- those that go: those that went, and those that go of the others
  pub sum_of-split : (live gone : A → Bool) → ((x : A) → live x ≡ false → gone x ≡ true) → (xs : List A) → (sum_of f (filter (λ x. not (live x)) xs) +ℤ sum_of f (filter gone (filter live xs))) ≡ sum_of f (filter gone xs)
  sum_of-split live gone dead [] = refl
  sum_of-split live gone dead (x ∷ xs) =
      let went : List A = filter (λ x. not (live x)) xs in
      let stay : List A = filter live xs in
      elim (live x) as (λ b. (b ≡ false → gone x ≡ true) → (sum_of f (cond (not b) (x ∷ went) went) +ℤ sum_of f (filter gone (cond b (x ∷ stay) stay))) ≡ sum_of f (cond (gone x) (x ∷ filter gone xs) (filter gone xs))) [
        | true ↦ λ _. elim (gone x) as (λ b. (sum_of f went +ℤ sum_of f (cond b (x ∷ filter gone stay) (filter gone stay))) ≡ sum_of f (cond b (x ∷ filter gone xs) (filter gone xs))) [
          | true ↦ between (f x) (sum_of f went) (sum_of f (filter gone stay)) (sum_of f (filter gone xs)) (sum_of-split live gone dead xs)
          | false ↦ sum_of-split live gone dead xs
        ]
        | false ↦ λ h.
            in_front (f x) (sum_of f went) (sum_of f (filter gone stay)) (sum_of f (filter gone xs)) (sum_of-split live gone dead xs)
            ∙ sym (ap (λ (b : Bool). sum_of f (cond b (x ∷ filter gone xs) (filter gone xs))) (h refl))
      ] (dead x)

  pub sum_of-both : (live : A → Bool) (xs : List A) → (sum_of f (filter (λ x. not (live x)) xs) +ℤ sum_of f (filter live xs)) ≡ sum_of f xs
  sum_of-both live xs =
      ap (λ (ys : List A). sum_of f (filter (λ x. not (live x)) xs) +ℤ sum_of f ys) (sym (all_of (λ x. true) (filter live xs) (all-any (λ x. true ≡ true) (λ x. refl) (filter live xs))))
      ∙ sum_of-split live (λ x. true) (λ x _. refl) xs
      ∙ ap (sum_of f) (all_of (λ x. true) xs (all-any (λ x. true ≡ true) (λ x. refl) xs))

-- ---- of two lists

pub sum_of-turned : {A B : Type 0} (f : A → B → ℤ) (xs : List A) (ys : List B) → sum_of (λ x. sum_of (f x) ys) xs ≡ sum_of (λ y. sum_of (λ x. f x y) xs) ys
sum_of-turned f [] ys = sym (sum_of-none ys)
sum_of-turned f (x ∷ xs) ys = ap (λ (s : ℤ). sum_of (f x) ys +ℤ s) (sum_of-turned f xs ys) ∙ sym (sum_of-plus (f x) (λ y. sum_of (λ x. f x y) xs) ys)

-- ---- over tables

-- of distinct places one passes at most
module _ {A : Type 0} (P : Place × A → Type 0) (t : Place × A → Bool) (z : ℤ) (one : (x y : Place × A) → P x → P y → t x ≡ true → t y ≡ true → x.0 ≡ y.0) where
  others : (x : Place × A) → P x → t x ≡ true → (ys : List (Place × A)) → AllByRecursion P ys → AllByRecursion (λ r. x.0 ≡ r → ⊥) (map (λ y. y.0) ys) → AllByRecursion (λ y. t y ≡ false) ys
  others x p h [] each differ = tt
  others x p h (y ∷ ys) each differ = (
    elim (t y) as (λ b. t y ≡ b → b ≡ false) [
      | true ↦ λ k. absurd (differ.0 (one x y p each.0 h k))
      | false ↦ λ k. refl
    ] refl,
    others x p h ys each.1 differ.1,
  )

  pub sum_of-one : (xs : List (Place × A)) → AllByRecursion P xs → AreDistinct (map (λ x. x.0) xs) → sum_of (λ x. cond (t x) z (pos 0)) xs ≡ cond (list_any t xs) z (pos 0)
  sum_of-one [] all apart = refl
  sum_of-one (x ∷ xs) all apart =
      elim (t x) as (λ b. t x ≡ b → (cond b z (pos 0) +ℤ sum_of (λ x. cond (t x) z (pos 0)) xs) ≡ cond (b || list_any t xs) z (pos 0)) [
        | true ↦ λ h.
            ap (λ (s : ℤ). z +ℤ s)
            (sum_of-each (λ x. cond (t x) z (pos 0)) (λ x. pos 0) xs (all-each (λ y. t y ≡ false) (λ y. cond (t y) z (pos 0) ≡ pos 0) xs (λ y k. ap (λ (b : Bool). cond b z (pos 0)) k) (others x all.0 h xs all.1 apart.0))
            ∙ sum_of-none xs)
            ∙ one_alone z
        | false ↦ λ h. none_more (sum_of (λ x. cond (t x) z (pos 0)) xs) ∙ sum_of-one xs all.1 apart.1
      ] refl
