-- Lists of what is given of others, and of what passes a test: what filters and maps make of them.
use Rattle.std.proofs.Common.{◌≡◌, Bool, true, false, ◌&&◌, cond, List, [], ◌∷◌, map, Option, Some, None, refl, sym, ap, subst, ◌∙◌}
use Rattle.std.proofs.lemmas.Bool.{true≢false}
use Rattle.std.proofs.lemmas.Option.{same_Some}
use Rattle.std.specs.Prelude.{filter, filter_map, option_map}
use Rattle.std.specs.List.{AllByRecursion, cons_option, last_or, list_all, list_any}
use Rattle.wsm_semantics.proofs.Each.{all-any, list_any-each, list_any-filter}

-- what passes of what some give is what those that pass give, where that is known of each
pub filter-known : {A B : Type 0} (P : A → Type 0) (g : A → Option B) (t : B → Bool) (u : A → Bool) → ((x : A) → P x → (y : B) → g x ≡ Some y → t y ≡ u x) → (xs : List A) → AllByRecursion P xs →
    filter t (filter_map g xs) ≡ filter_map g (filter u xs)
filter-known P g t u same [] each = refl
filter-known {A} {B} P g t u same (x ∷ xs) each =
    elim (g x) as (λ o. g x ≡ o → filter t (cons_option o (filter_map g xs)) ≡ filter_map g (cond (u x) (x ∷ filter u xs) (filter u xs))) [
      | None ↦ λ h. filter-known P g t u same xs each.1 ∙ elim (u x) as (λ b. filter_map g (filter u xs) ≡ filter_map g (cond b (x ∷ filter u xs) (filter u xs))) [
        | true ↦ ap (λ (o : Option B). cons_option o (filter_map g (filter u xs))) (sym h)
        | false ↦ refl
      ]
      | Some y ↦ λ h. ap (λ (b : Bool). cond b (y ∷ filter t (filter_map g xs)) (filter t (filter_map g xs))) (same x each.0 y h)
          ∙ elim (u x) as (λ b. cond b (y ∷ filter t (filter_map g xs)) (filter t (filter_map g xs)) ≡ filter_map g (cond b (x ∷ filter u xs) (filter u xs))) [
            | true ↦ ap (λ (ys : List B). y ∷ ys) (filter-known P g t u same xs each.1) ∙ ap (λ (o : Option B). cons_option o (filter_map g (filter u xs))) (sym h)
            | false ↦ filter-known P g t u same xs each.1
          ]
    ] refl

pub filter-given : {A B : Type 0} (g : A → Option B) (t : B → Bool) (u : A → Bool) → ((x : A) (y : B) → g x ≡ Some y → t y ≡ u x) → (xs : List A) → filter t (filter_map g xs) ≡ filter_map g (filter u xs)
filter-given {A} g t u same xs = filter-known (λ (x : A). Unit {0}) g t u (λ x _ y h. same x y h) xs (all-any (λ (x : A). Unit {0}) (λ x. tt) xs)

map-given : {B C : Type 0} (k : B → C) (o : Option B) (ys : List B) → cons_option (option_map k o) (map k ys) ≡ map k (cons_option o ys)
map-given k None ys = refl
map-given k (Some y) ys = refl

-- what some give as others do
pub filter_map-image : {A B C D : Type 0} (g : B → Option D) (h : A → B) (j : A → Option C) (k : C → D) (xs : List A) → AllByRecursion (λ x. g (h x) ≡ option_map k (j x)) xs →
    filter_map g (map h xs) ≡ map k (filter_map j xs)
filter_map-image g h j k [] each = refl
filter_map-image g h j k (x ∷ xs) each = (λ i. cons_option (each.0 i) (filter_map-image g h j k xs each.1 i)) ∙ map-given k (j x) (filter_map j xs)

pub all-of_map : {A B : Type 0} (P : B → Type 0) (h : A → B) (xs : List A) → AllByRecursion P (map h xs) → AllByRecursion (λ x. P (h x)) xs
all-of_map P h [] each = tt
all-of_map P h (x ∷ xs) each = (each.0, all-of_map P h xs each.1)

-- what is true of those that pass is true of each that passes
pub of_passed : {A : Type 0} (P : A → Type 0) (t : A → Bool) (xs : List A) → AllByRecursion P (filter t xs) → AllByRecursion (λ x. t x ≡ true → P x) xs
of_passed P t [] h = tt
of_passed {A} P t (x ∷ xs) h =
    elim (t x) as (λ b. t x ≡ b → AllByRecursion P (cond b (x ∷ filter t xs) (filter t xs)) → AllByRecursion (λ x. t x ≡ true → P x) (x ∷ xs)) [
      | true ↦ λ _ k. (λ _. k.0, of_passed P t xs k.1)
      | false ↦ λ fails k. ((λ passes. absurd (true≢false (sym passes ∙ fails))), of_passed P t xs k)
    ] refl h

pub map-itself : {A : Type 0} (h : A → A) → ((x : A) → h x ≡ x) → (xs : List A) → map h xs ≡ xs
map-itself h same [] = refl
map-itself h same (x ∷ xs) = λ i. same x i ∷ map-itself h same xs i

pub filter-any : {A : Type 0} (xs : List A) → filter (λ _. true) xs ≡ xs
filter-any [] = refl
filter-any {A} (x ∷ xs) = ap (λ (ys : List A). x ∷ ys) (filter-any xs)

pub list_any-wider : {A : Type 0} (t u : A → Bool) → ((x : A) → t x ≡ true → u x ≡ true) → (xs : List A) → list_any t xs ≡ list_any t (filter u xs)
list_any-wider t u within xs =
    list_any-each t (λ x. u x && t x) xs (all-any (λ x. t x ≡ (u x && t x)) (λ x. narrowed (t x) (u x) (within x)) xs)
    ∙ sym (list_any-filter t u xs)
  where
    narrowed : (a b : Bool) → (a ≡ true → b ≡ true) → a ≡ (b && a)
    narrowed true b h = ap (λ (c : Bool). c && true) (sym (h refl))
    narrowed false true h = refl
    narrowed false false h = refl

pub list_all-map : {A B : Type 0} (p : B → Bool) (h : A → B) (xs : List A) → list_all p (map h xs) ≡ list_all (λ x. p (h x)) xs
list_all-map p h [] = refl
list_all-map p h (x ∷ xs) = ap (λ (b : Bool). p (h x) && b) (list_all-map p h xs)

pub list_all-same : {A : Type 0} (p r : A → Bool) → ((x : A) → p x ≡ r x) → (xs : List A) → list_all p xs ≡ list_all r xs
list_all-same p r same [] = refl
list_all-same p r same (x ∷ xs) = λ i. same x i && list_all-same p r same xs i

pub last_or-map : {A B : Type 0} (h : A → B) (o : Option A) (xs : List A) → last_or (option_map h o) (map h xs) ≡ option_map h (last_or o xs)
last_or-map h o [] = refl
last_or-map h o (x ∷ xs) = last_or-map h (Some x) xs

-- the last of some is one of them
pub last_holds : {A : Type 0} (P : A → Type 0) (o : Option A) (xs : List A) (y : A) → ((x : A) → o ≡ Some x → P x) → AllByRecursion P xs → last_or o xs ≡ Some y → P y
last_holds P o [] y first each h = first y h
last_holds P o (x ∷ xs) y first each h = last_holds P (Some x) xs y (λ z same. subst P (same_Some x z same) each.0) each.1 h
