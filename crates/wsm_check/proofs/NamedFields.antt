-- Fields found by their names, and numbers of names.
use Rattle.std.proofs.Common.{◌≡◌, ◌∙◌, ◌+◌, ◌≤◌, ◌||◌, ℕ, suc, Bool, true, false, not, cond, List, [], ◌∷◌, length, map, drop, position, None, Some, Option, MatchOption, nat_lt, bytes_eq, refl, sym, ap, arith}
use Rattle.std.proofs.lemmas.List.{drop_all}
use Rattle.std.proofs.lemmas.Bool.Decides.{nat_tests}
use Rattle.wsm_record.specs.Name.{is_among}
use Rattle.wsm_record.specs.declared.schema.DeclaredField.{DeclaredField as KeptField}
use Rattle.wsm_record.specs.Schema.{DeclaredField}
use Rattle.wsm_query.specs.Tree.{Name}
use Rattle.wsm_record.specs.Fields.{field_seen}
use Rattle.wsm_check.specs.Names.{IsListed, field_names, field_place, place_of, type_of}

-- the fields behind some that don't have the name
pub record Behind (ds : List DeclaredField) (x : Name) (passed : ℕ) (rest : List DeclaredField) : Type 0 where
  pub there : is_among x (field_names ds) ≡ is_among x (field_names rest)
  pub place : field_place ds x ≡ passed + field_place rest x
  pub declared : type_of x ds ≡ type_of x rest

-- all fields were passed
pub behind_all : (fields : List KeptField) (x : Name) (i : ℕ) → Behind (map field_seen fields) x i (map field_seen (drop i fields)) → i ≤ length fields → length fields ≤ i → is_among x (field_names (map field_seen fields)) ≡ false
behind_all fields x i h low high =
    let none : drop i fields ≡ [] = drop_all i fields high in
    h.there ∙ ap (λ (ds : List KeptField). is_among x (field_names (map field_seen ds))) none

-- ---- numbers of names

pub first_below : (n : ℕ) → nat_lt 0 (suc n) ≡ true
first_below n = grind arith

next_below : (m n : ℕ) (b : Bool) → nat_lt m n ≡ b → nat_lt (1 + m) (suc n) ≡ b
next_below m n b h = grind (arith, nat_tests)

among_is_below : (x : Name) (ys : List Name) → nat_lt (place_of x ys) (length ys) ≡ is_among x ys
among_is_below x [] = refl
among_is_below x (y ∷ ys) =
    elim (bytes_eq x y) as (λ b. nat_lt (cond (not b) (1 + place_of x ys) 0) (suc (length ys)) ≡ (b || is_among x ys)) [
      | true ↦ first_below (length ys)
      | false ↦ next_below (place_of x ys) (length ys) (is_among x ys) (among_is_below x ys)
    ]

-- what a search found is there, and else it isn't
pub listed : (x : Name) (names : List Name) (r : Option ℕ) → r ≡ position (bytes_eq x) names → MatchOption r (is_among x names ≡ false) (λ n. IsListed names x n)
listed x names r e = search_from (nat_lt (place_of x names) (length names)) refl r e
  where
    some_is : (m n : ℕ) → Some m ≡ Some n → m ≡ n
    some_is m n h = cc

    search_from : (b : Bool) → nat_lt (place_of x names) (length names) ≡ b → (r : Option ℕ) → r ≡ cond b (Some (place_of x names)) None → MatchOption r (is_among x names ≡ false) (λ n. IsListed names x n)
    search_from true h (Some n) e = record { there = sym (among_is_below x names) ∙ h; place = some_is n (place_of x names) e }
    search_from false h None e = sym (among_is_below x names) ∙ h
    search_from b h r e = cc
