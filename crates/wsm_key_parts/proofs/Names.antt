-- A name keeps its number as more come.
use Rattle.std.proofs.Common.{◌≡◌, ℕ, suc, ◌+◌, ◌<◌, Bool, true, false, ◌||◌, cond, not, List, [], ◌∷◌, ◌++◌, length, position, Some, refl, sym, ap, subst, ◌∙◌, arith}
use Rattle.std.proofs.lemmas.Bool.{true≢false, lt-ltb}
use Rattle.std.proofs.lemmas.List.{length-append}
use Rattle.std.proofs.lemmas.Slice.Eq.{bytes_eq-Decides}
use Rattle.std.specs.Prelude.{bytes_eq, IsSome, Option, None}
use Rattle.std.specs.List.{list_any, prefix_len}
use Rattle.wsm_key_parts.specs.Names.{with_name, with_names, NumbersStay}

module _ (t : List ℕ → Bool) where
  abbrev fails : List ℕ → Bool
  fails x = not (t x)

  -- in front of the first that passes
  abbrev front : List (List ℕ) → ℕ
  front xs = prefix_len fails xs

  some_passes : (xs : List (List ℕ)) → list_any t xs ≡ true → front xs < length xs
  some_passes [] h = absurd (true≢false (sym h))
  some_passes (x ∷ xs) h =
      elim (t x) as (λ b. (b || list_any t xs) ≡ true → cond (not b) (1 + front xs) 0 < suc (length xs)) [
        | true ↦ λ _. omega arith
        | false ↦ λ k. let rest = some_passes xs k in omega (arith, rest)
      ] h

  still_first : (xs ys : List (List ℕ)) → front xs < length xs → front (xs ++ ys) ≡ front xs
  still_first [] ys h = absurd (omega (arith, h))
  still_first (x ∷ xs) ys h =
      elim (t x) as (λ b. cond (not b) (1 + front xs) 0 < suc (length xs) → cond (not b) (1 + front (xs ++ ys)) 0 ≡ cond (not b) (1 + front xs) 0) [
        | true ↦ λ _. refl
        | false ↦ λ k. ap (λ (n : ℕ). 1 + n) (still_first xs ys (omega (arith, k)))
      ] h

  comes_next : (xs : List (List ℕ)) (x : List ℕ) → t x ≡ true → list_any t xs ≡ false → front (xs ++ x ∷ []) ≡ length xs
  comes_next [] x is h = ap (λ (b : Bool). cond (not b) (1 + 0) 0) is
  comes_next (y ∷ ys) x is h =
      elim (t y) as (λ b. (b || list_any t ys) ≡ false → cond (not b) (1 + front (ys ++ x ∷ [])) 0 ≡ suc (length ys)) [
        | true ↦ λ k. absurd (true≢false k)
        | false ↦ λ k. let rest = comes_next ys x is k in omega (arith, rest)
      ] h

  position_is : (xs : List (List ℕ)) → front xs < length xs → position t xs ≡ Some (front xs)
  position_is xs h = ap (λ (b : Bool). cond b (Some (front xs)) None) (lt-ltb (front xs) (length xs) h)

-- names that come are put behind
abbrev Behind : List (List ℕ) → List (List ℕ) → Type 0
Behind names all = (more : List (List ℕ)) × (all ≡ names ++ more)

nothing_more : (names : List (List ℕ)) → names ≡ names ++ []
nothing_more [] = refl
nothing_more (x ∷ xs) = ap (λ (ys : List (List ℕ)). x ∷ ys) (nothing_more xs)

joined : (xs ys zs : List (List ℕ)) → (xs ++ ys) ++ zs ≡ xs ++ (ys ++ zs)
joined [] ys zs = refl
joined (x ∷ xs) ys zs = ap (λ (ws : List (List ℕ)). x ∷ ws) (joined xs ys zs)

one_behind : (names : List (List ℕ)) (name : List ℕ) → Behind names (with_name names name)
one_behind names name =
    elim (list_any (bytes_eq name) names) as (λ b. Behind names (cond b names (names ++ name ∷ []))) [
      | true ↦ ([], nothing_more names)
      | false ↦ (name ∷ [], refl)
    ]

all_behind : (names later : List (List ℕ)) → Behind names (with_names names later)
all_behind names [] = ([], nothing_more names)
all_behind names (name ∷ later) =
    let first = one_behind names name in
    let rest = all_behind (with_name names name) later in
    (first.0 ++ rest.0, rest.1 ∙ ap (λ (xs : List (List ℕ)). xs ++ rest.0) first.1 ∙ joined names first.0 rest.0)

itself : (name : List ℕ) → bytes_eq name name ≡ true
itself name = (bytes_eq-Decides name name).1 refl

-- it stands among them
is_there : (names : List (List ℕ)) (name : List ℕ) → front (bytes_eq name) (with_name names name) < length (with_name names name)
is_there names name =
    elim (list_any (bytes_eq name) names) as (λ b. list_any (bytes_eq name) names ≡ b → front (bytes_eq name) (cond b names (names ++ name ∷ [])) < length (cond b names (names ++ name ∷ []))) [
      | true ↦ λ h. some_passes (bytes_eq name) names h
      | false ↦ λ h.
          let at = comes_next (bytes_eq name) names name (itself name) h in
          let long = length-append names (name ∷ []) in
          omega (arith, at, long)
    ] refl

stays_there : (names : List (List ℕ)) (name : List ℕ) (all : List (List ℕ)) → Behind (with_name names name) all → position (bytes_eq name) all ≡ position (bytes_eq name) (with_name names name)
stays_there names name all more =
    let known : List (List ℕ) = with_name names name in
    let first = is_there names name in
    let same : front (bytes_eq name) (known ++ more.0) ≡ front (bytes_eq name) known = still_first (bytes_eq name) known more.0 first in
    let long = length-append known more.0 in
    ap (position (bytes_eq name)) more.1
    ∙ position_is (bytes_eq name) (known ++ more.0) (omega (arith, same, first, long))
    ∙ ap Some same
    ∙ sym (position_is (bytes_eq name) known first)

new_one : (names : List (List ℕ)) (name : List ℕ) → list_any (bytes_eq name) names ≡ false → position (bytes_eq name) (with_name names name) ≡ Some (length names)
new_one names name new =
    let is : with_name names name ≡ names ++ name ∷ [] = ap (λ (b : Bool). cond b names (names ++ name ∷ [])) new in
    position_is (bytes_eq name) (with_name names name) (is_there names name)
    ∙ ap Some (ap (front (bytes_eq name)) is ∙ comes_next (bytes_eq name) names name (itself name) new)

pub numbers_stay : NumbersStay
numbers_stay = record {
  known = λ names name. subst (λ (o : Option ℕ). IsSome o) (sym (position_is (bytes_eq name) (with_name names name) (is_there names name))) refl;
  stays = λ names name later. stays_there names name (with_names (with_name names name) later) (all_behind (with_name names name) later);
  next = new_one;
}
