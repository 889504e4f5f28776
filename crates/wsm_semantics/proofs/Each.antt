-- Tests that agree, and lists whose elements agree: filters and maps that give the same.
use Rattle.std.proofs.Common.{◌≡◌, ℕ, Bool, true, false, ◌&&◌, ◌||◌, cond, List, [], ◌∷◌, ◌++◌, map, T, Option, Some, None, refl, sym, ap, ◌∙◌, ⊎_elim, arith}
use Rattle.std.proofs.lemmas.Bool.{true≢false, and_from, or_cases, or_left, or_right}
use Rattle.std.proofs.lemmas.Bool.Decides.{nat_tests}
use Rattle.std.specs.Prelude.{filter, filter_map, nat_eq}
use Rattle.std.specs.List.{AllByRecursion, cons_option, list_all, list_any}
use Rattle.std.proofs.Math.Bool.{and-false}
-- the same number, by its test
pub use Rattle.std.proofs.lemmas.Bool.{eqb-true as same_key}

pub itself : (n : ℕ) → nat_eq n n ≡ true
itself n = grind (arith, nat_tests)

pub same_answers : (a b : Bool) → (a ≡ true → b ≡ true) → (b ≡ true → a ≡ true) → a ≡ b
same_answers true b f g = sym (f refl)
same_answers false true f g = g refl
same_answers false false f g = refl

pub as_true : (b : Bool) → T b → b ≡ true
as_true true h = refl
as_true false h = absurd h

-- a test that the other makes true
pub and_of : (a b : Bool) → (b ≡ true → a ≡ true) → (a && b) ≡ b
and_of a true f = ap (λ (c : Bool). c && true) (f refl)
and_of a false f = and-false a

pub passed : {A : Type 0} (p : A → Bool) (xs : List A) → AllByRecursion (λ x. p x ≡ true) (filter p xs)
passed p [] = tt
passed p (x ∷ xs) = elim (p x) as (λ b. p x ≡ b → AllByRecursion (λ y. p y ≡ true) (cond b (x ∷ filter p xs) (filter p xs))) [
  | true ↦ λ h. (h, passed p xs)
  | false ↦ λ h. passed p xs
] refl

pub all-swap : {A R : Type 0} (P : R → A → Type 0) (xs : List A) → ((r : R) → AllByRecursion (P r) xs) → AllByRecursion (λ x. (r : R) → P r x) xs
all-swap P [] h = tt
all-swap P (x ∷ xs) h = (λ r. (h r).0, all-swap P xs (λ r. (h r).1))

module _ {A : Type 0} where
  pub all-append : (P : A → Type 0) (xs ys : List A) → AllByRecursion P xs → AllByRecursion P ys → AllByRecursion P (xs ++ ys)
  all-append P [] ys h k = k
  all-append P (x ∷ xs) ys h k = (h.0, all-append P xs ys h.1 k)

  pub all-any : (P : A → Type 0) → ((x : A) → P x) → (xs : List A) → AllByRecursion P xs
  all-any P h [] = tt
  all-any P h (x ∷ xs) = (h x, all-any P h xs)

  pub all-both : (P Q R : A → Type 0) → ((x : A) → P x → Q x → R x) → (xs : List A) → AllByRecursion P xs → AllByRecursion Q xs → AllByRecursion R xs
  all-both P Q R f [] h k = tt
  all-both P Q R f (x ∷ xs) h k = (f x h.0 k.0, all-both P Q R f xs h.1 k.1)

  pub all-after : (P : A → Type 0) (xs ys : List A) → AllByRecursion P (xs ++ ys) → AllByRecursion P ys
  all-after P [] ys h = h
  all-after P (x ∷ xs) ys h = all-after P xs ys h.1

  -- what is told of each that passes
  pub all-passed : (P Q : A → Type 0) (t : A → Bool) → ((x : A) → P x → t x ≡ true → Q x) → (xs : List A) → AllByRecursion P xs → AllByRecursion Q (filter t xs)
  all-passed P Q t f [] h = tt
  all-passed P Q t f (x ∷ xs) h =
      elim (t x) as (λ b. t x ≡ b → AllByRecursion Q (cond b (x ∷ filter t xs) (filter t xs))) [
        | true ↦ λ e. (f x h.0 e, all-passed P Q t f xs h.1)
        | false ↦ λ e. all-passed P Q t f xs h.1
      ] refl

  pub filter-each : (p r : A → Bool) (xs : List A) → AllByRecursion (λ x. p x ≡ r x) xs → filter p xs ≡ filter r xs
  filter-each p r [] h = refl
  filter-each p r (x ∷ xs) h = λ i. cond (h.0 i) (x ∷ filter-each p r xs h.1 i) (filter-each p r xs h.1 i)

  pub filter-filter : (p r : A → Bool) (xs : List A) → filter p (filter r xs) ≡ filter (λ x. r x && p x) xs
  filter-filter p r [] = refl
  filter-filter p r (x ∷ xs) =
      elim (r x) as (λ b. filter p (cond b (x ∷ filter r xs) (filter r xs)) ≡ cond (b && p x) (x ∷ filter (λ y. r y && p y) xs) (filter (λ y. r y && p y) xs)) [
        | true ↦ ap (λ (ys : List A). cond (p x) (x ∷ ys) ys) (filter-filter p r xs)
        | false ↦ filter-filter p r xs
      ]

  pub none_of : (p : A → Bool) (xs : List A) → AllByRecursion (λ x. p x ≡ false) xs → filter p xs ≡ []
  none_of p [] h = refl
  none_of p (x ∷ xs) h = ap (λ (b : Bool). cond b (x ∷ filter p xs) (filter p xs)) h.0 ∙ none_of p xs h.1

  pub all_of : (p : A → Bool) (xs : List A) → AllByRecursion (λ x. p x ≡ true) xs → filter p xs ≡ xs
  all_of p [] h = refl
  all_of p (x ∷ xs) h = ap (λ (b : Bool). cond b (x ∷ filter p xs) (filter p xs)) h.0 ∙ ap (λ (ys : List A). x ∷ ys) (all_of p xs h.1)

  pub filter_swap : (p r : A → Bool) (xs : List A) → filter p (filter r xs) ≡ filter r (filter p xs)
  filter_swap p r [] = refl
  filter_swap p r (x ∷ xs) =
      elim (p x) as (λ b. p x ≡ b → filter p (cond (r x) (x ∷ filter r xs) (filter r xs)) ≡ filter r (cond b (x ∷ filter p xs) (filter p xs))) [
        | true ↦ λ h. elim (r x) as (λ c. filter p (cond c (x ∷ filter r xs) (filter r xs)) ≡ cond c (x ∷ filter r (filter p xs)) (filter r (filter p xs))) [
          | true ↦ ap (λ (b : Bool). cond b (x ∷ filter p (filter r xs)) (filter p (filter r xs))) h ∙ ap (λ (ys : List A). x ∷ ys) (filter_swap p r xs)
          | false ↦ filter_swap p r xs
        ]
        | false ↦ λ h. elim (r x) as (λ c. filter p (cond c (x ∷ filter r xs) (filter r xs)) ≡ filter r (filter p xs)) [
          | true ↦ ap (λ (b : Bool). cond b (x ∷ filter p (filter r xs)) (filter p (filter r xs))) h ∙ filter_swap p r xs
          | false ↦ filter_swap p r xs
        ]
      ] refl

  pub filter-append : (p : A → Bool) (xs ys : List A) → filter p (xs ++ ys) ≡ filter p xs ++ filter p ys
  filter-append p [] ys = refl
  filter-append p (x ∷ xs) ys =
      elim (p x) as (λ b. cond b (x ∷ filter p (xs ++ ys)) (filter p (xs ++ ys)) ≡ cond b (x ∷ filter p xs) (filter p xs) ++ filter p ys) [
        | true ↦ ap (λ (zs : List A). x ∷ zs) (filter-append p xs ys)
        | false ↦ filter-append p xs ys
      ]

  pub list_any-filter : (p r : A → Bool) (xs : List A) → list_any p (filter r xs) ≡ list_any (λ x. r x && p x) xs
  list_any-filter p r [] = refl
  list_any-filter p r (x ∷ xs) =
      elim (r x) as (λ b. list_any p (cond b (x ∷ filter r xs) (filter r xs)) ≡ ((b && p x) || list_any (λ y. r y && p y) xs)) [
        | true ↦ ap (λ (b : Bool). p x || b) (list_any-filter p r xs)
        | false ↦ list_any-filter p r xs
      ]

  pub list_any-each : (p r : A → Bool) (xs : List A) → AllByRecursion (λ x. p x ≡ r x) xs → list_any p xs ≡ list_any r xs
  list_any-each p r [] h = refl
  list_any-each p r (x ∷ xs) h = λ i. h.0 i || list_any-each p r xs h.1 i

  pub list_any-and : (p : A → Bool) (c : Bool) (xs : List A) → list_any (λ x. c && p x) xs ≡ (c && list_any p xs)
  list_any-and p true xs = refl
  list_any-and p false [] = refl
  list_any-and p false (x ∷ xs) = list_any-and p false xs

  pub list_any-none : (p : A → Bool) (xs : List A) → AllByRecursion (λ x. p x ≡ false) xs → list_any p xs ≡ false
  list_any-none p [] h = refl
  list_any-none p (x ∷ xs) h = λ i. h.0 i || list_any-none p xs h.1 i

  pub list_any-append : (p : A → Bool) (xs ys : List A) → list_any p (xs ++ ys) ≡ (list_any p xs || list_any p ys)
  list_any-append p [] ys = refl
  list_any-append p (x ∷ xs) ys = elim (p x) as (λ b. (b || list_any p (xs ++ ys)) ≡ ((b || list_any p xs) || list_any p ys)) [ true ↦ refl | false ↦ list_any-append p xs ys ]

  pub each_fails : (t : A → Bool) (xs : List A) → list_any t xs ≡ false → AllByRecursion (λ x. t x ≡ false) xs
  each_fails t [] h = tt
  each_fails t (x ∷ xs) h =
      elim (t x) as (λ b. t x ≡ b → (b || list_any t xs) ≡ false → AllByRecursion (λ x. t x ≡ false) (x ∷ xs)) [
        | true ↦ λ e h. absurd (true≢false h)
        | false ↦ λ e h. (e, each_fails t xs h)
      ] refl h

  pub some_of : (P : A → Type 0) (t : A → Bool) (xs : List A) → AllByRecursion P xs → list_any t xs ≡ true → (x : A) × P x × (t x ≡ true)
  some_of P t [] h k = absurd (true≢false (sym k))
  some_of P t (x ∷ xs) h k = ⊎_elim (λ e. (x, h.0, e)) (λ later. some_of P t xs h.1 later) (or_cases _ _ k)

  pub list_any-more : (P : A → Type 0) (t u : A → Bool) → ((x : A) → P x → t x ≡ true → u x ≡ true) → (xs : List A) → AllByRecursion P xs → list_any t xs ≡ true → list_any u xs ≡ true
  list_any-more P t u f [] h k = k
  list_any-more P t u f (x ∷ xs) h k = ⊎_elim (λ e. or_left _ _ (f x h.0 e)) (λ later. or_right _ _ (list_any-more P t u f xs h.1 later)) (or_cases _ _ k)

  pub list_all-from : (P : A → Type 0) (t : A → Bool) → ((x : A) → P x → t x ≡ true) → (xs : List A) → AllByRecursion P xs → list_all t xs ≡ true
  list_all-from P t f [] h = refl
  list_all-from P t f (x ∷ xs) h = and_from _ _ (f x h.0) (list_all-from P t f xs h.1)

module _ {A B : Type 0} where
  pub map-all : (P : B → Type 0) (f : A → B) (xs : List A) → AllByRecursion (λ x. P (f x)) xs → AllByRecursion P (map f xs)
  map-all P f [] h = tt
  map-all P f (x ∷ xs) h = (h.0, map-all P f xs h.1)

  pub filter_map-all : (P : A → Type 0) (Q : B → Type 0) (g : A → Option B) → ((x : A) → P x → (y : B) → g x ≡ Some y → Q y) → (xs : List A) → AllByRecursion P xs → AllByRecursion Q (filter_map g xs)
  filter_map-all P Q g f [] h = tt
  filter_map-all P Q g f (x ∷ xs) h =
      elim (g x) as (λ o. g x ≡ o → AllByRecursion Q (cons_option o (filter_map g xs))) [
        | None ↦ λ e. filter_map-all P Q g f xs h.1
        | Some y ↦ λ e. (f x h.0 y e, filter_map-all P Q g f xs h.1)
      ] refl

  pub map-each : (f g : A → B) (xs : List A) → AllByRecursion (λ x. f x ≡ g x) xs → map f xs ≡ map g xs
  map-each f g [] h = refl
  map-each f g (x ∷ xs) h = λ i. h.0 i ∷ map-each f g xs h.1 i

  pub filter_map-each : (f g : A → Option B) (xs : List A) → AllByRecursion (λ x. f x ≡ g x) xs → filter_map f xs ≡ filter_map g xs
  filter_map-each f g [] h = refl
  filter_map-each f g (x ∷ xs) h = λ i. cons_option (h.0 i) (filter_map-each f g xs h.1 i)

  -- those that a filter leaves out give nothing
  pub filter_map-filter : (f : A → Option B) (p : A → Bool) (xs : List A) → AllByRecursion (λ x. p x ≡ false → f x ≡ None) xs → filter_map f (filter p xs) ≡ filter_map f xs
  filter_map-filter f p [] h = refl
  filter_map-filter f p (x ∷ xs) h =
      elim (p x) as (λ b. p x ≡ b → filter_map f (cond b (x ∷ filter p xs) (filter p xs)) ≡ cons_option (f x) (filter_map f xs)) [
        | true ↦ λ k. ap (cons_option (f x)) (filter_map-filter f p xs h.1)
        | false ↦ λ k. filter_map-filter f p xs h.1 ∙ ap (λ (o : Option B). cons_option o (filter_map f xs)) (sym (h.0 k))
      ] refl

  pub filter-map : (f : A → B) (p : B → Bool) (xs : List A) → filter p (map f xs) ≡ map f (filter (λ x. p (f x)) xs)
  filter-map f p [] = refl
  filter-map f p (x ∷ xs) =
      elim (p (f x)) as (λ b. cond b (f x ∷ filter p (map f xs)) (filter p (map f xs)) ≡ map f (cond b (x ∷ filter (λ y. p (f y)) xs) (filter (λ y. p (f y)) xs))) [
        | true ↦ ap (λ (ys : List B). f x ∷ ys) (filter-map f p xs)
        | false ↦ filter-map f p xs
      ]

module _ {A B C : Type 0} where
  pub map-map : (g : B → C) (f : A → B) (xs : List A) → map g (map f xs) ≡ map (λ x. g (f x)) xs
  map-map g f [] = refl
  map-map g f (x ∷ xs) = ap (λ (ys : List C). g (f x) ∷ ys) (map-map g f xs)

  pub filter_map-map : (g : B → Option C) (f : A → B) (xs : List A) → filter_map g (map f xs) ≡ filter_map (λ x. g (f x)) xs
  filter_map-map g f [] = refl
  filter_map-map g f (x ∷ xs) = ap (cons_option (g (f x))) (filter_map-map g f xs)
