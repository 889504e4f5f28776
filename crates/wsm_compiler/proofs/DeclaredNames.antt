-- Where names that are declared stand, and that names listed without repeats are listed as programs list them.
use Rattle.std.proofs.Common.{◌≡◌, ℕ, suc, ◌+◌, Bool, true, false, ◌&&◌, ◌||◌, not, cond, List, [], ◌∷◌, ◌++◌, length, None, refl, sym, ap, ◌∙◌, arith}
use Rattle.std.proofs.Math.Numerals.{one-add}
use Rattle.std.proofs.lemmas.List.{length-map}
use Rattle.std.proofs.lemmas.List.Folds.{list_any-append}
use Rattle.std.specs.Prelude.{bytes_eq, nat_lt, slice_get}
use Rattle.std.specs.List.{list_all}
use Rattle.std.proofs.lemmas.Bool.{and_from, and_parts, not-true}
use Rattle.std.proofs.Math.Bool.{or-false}
use Rattle.wsm_record.specs.Name.{is_name, is_among}
use Rattle.wsm_record.specs.Schema.{DeclaredField, FieldType, are_names_after, are_sources, is_name_list, names_of_type, names_of_field}
use Rattle.wsm_program.specs.Program.{is_name_of, is_number_type, is_number_field}
use Rattle.wsm_query.specs.Tree.{Name}
use Rattle.wsm_check.specs.declared.refusal.CheckFault.TheVariants.{Duplicate}
use Rattle.wsm_check.specs.declared.refusal.Part.{Part}
use Rattle.wsm_check.specs.Names.{place_of, has_repeats, field_names, field_place, names_of, type_of}
use Rattle.wsm_check.specs.Checks.{unless, names_refusal, sources_refusal}
use Rattle.wsm_machine.proofs.FittingStacks.{no}
use Rattle.wsm_compiler.proofs.Passed.{unless_none}
use Rattle.wsm_check.proofs.NamedFields.{first_below}
use Rattle.wsm_check.proofs.Repeats.{same_either_way}
use Rattle.wsm_check.proofs.ChecksInOrder.{passed_both}

-- ---- places

next_below : (m n : ℕ) → nat_lt m n ≡ true → nat_lt (1 + m) (suc n) ≡ true
next_below m n h = grind arith

pub place_below : (x : Name) (ys : List Name) → is_among x ys ≡ true → nat_lt (place_of x ys) (length ys) ≡ true
place_below x [] h = no h
place_below x (y ∷ ys) h =
    elim (bytes_eq x y) as (λ b. (b || is_among x ys) ≡ true → nat_lt (cond (not b) (1 + place_of x ys) 0) (suc (length ys)) ≡ true) [
      | true ↦ λ h. first_below (length ys)
      | false ↦ λ h. next_below (place_of x ys) (length ys) (place_below x ys h)
    ] h

pub field_below : (ds : List DeclaredField) (x : Name) → is_among x (field_names ds) ≡ true → nat_lt (field_place ds x) (length ds) ≡ true
field_below ds x h = ap (nat_lt (field_place ds x)) (sym (length-map ds (λ d. d.name))) ∙ place_below x (field_names ds) h

-- the names of the field at the place of a name are those of its type
pub names_there : (ds : List DeclaredField) (x : Name) → is_among x (field_names ds) ≡ true → names_of_field (slice_get ds (field_place ds x)) ≡ names_of_type (type_of x ds)
names_there [] x h = no h
names_there (d ∷ ds) x h =
    elim (bytes_eq x d.name) as (λ b. (b || is_among x (field_names ds)) ≡ true →
    names_of_field (slice_get (d ∷ ds) (cond (not b) (1 + field_place ds x) 0)) ≡ names_of_type (cond b d.type (type_of x ds))) [
      | true ↦ λ h. refl
      | false ↦ λ h. ap (λ n. names_of_field (slice_get (d ∷ ds) n)) (one-add (field_place ds x)) ∙ names_there ds x h
    ] h

-- it has numbers if its type has
pub number_there : (ds : List DeclaredField) (x : Name) → is_among x (field_names ds) ≡ true → is_number_field (slice_get ds (field_place ds x)) ≡ is_number_type (type_of x ds)
number_there [] x h = no h
number_there (d ∷ ds) x h =
    elim (bytes_eq x d.name) as (λ b. (b || is_among x (field_names ds)) ≡ true →
    is_number_field (slice_get (d ∷ ds) (cond (not b) (1 + field_place ds x) 0)) ≡ is_number_type (cond b d.type (type_of x ds))) [
      | true ↦ λ h. refl
      | false ↦ λ h. ap (λ n. is_number_field (slice_get (d ∷ ds) n)) (one-add (field_place ds x)) ∙ number_there ds x h
    ] h

-- a name of a type is one of the names that the type declares
pub name_there : (ty : FieldType) (y : Name) → is_among y (names_of ty) ≡ true → is_name_of (names_of_type ty) (place_of y (names_of ty)) ≡ true
name_there ty y h = grind (arith, place_below)

-- ---- names without repeats

or_is : (a b : Bool) → (a || b) ≡ false → (a ≡ false) × (b ≡ false)
or_is a b h = grind arith

abbrev pub apart : List Name → List Name → Bool
apart before xs = list_all (λ x. not (is_among x before)) xs

pub apart_none : (xs : List Name) → apart [] xs ≡ true
apart_none [] = refl
apart_none (x ∷ xs) = apart_none xs

-- also with a name more before them that is none of them
apart_more : (before : List Name) (x : Name) (ys : List Name) → apart before ys ≡ true → is_among x ys ≡ false → apart (before ++ x ∷ []) ys ≡ true
apart_more before x [] h l = refl
apart_more before x (y ∷ ys) h l =
    let p = and_parts (not (is_among y before)) (apart before ys) h in
    let d = or_is (bytes_eq x y) (is_among x ys) l in
    let absent : is_among y (before ++ x ∷ []) ≡ false =
    list_any-append (bytes_eq y) before (x ∷ []) ∙ (λ i. not-true (is_among y before) p.0 i || or-false (bytes_eq y x) i) ∙ same_either_way y x ∙ d.0 in
    and_from (not (is_among y (before ++ x ∷ []))) (apart (before ++ x ∷ []) ys) (ap not absent) (apart_more before x ys p.1 d.1)

listed_after : (before xs : List Name) → list_all is_name xs ≡ true → apart before xs ≡ true → has_repeats xs ≡ false → are_names_after before xs ≡ true
listed_after before [] h l r = refl
listed_after before (x ∷ xs) h l r =
    let p = and_parts (is_name x) (list_all is_name xs) h in
    let a = and_parts (not (is_among x before)) (apart before xs) l in
    let d = or_is (is_among x xs) (has_repeats xs) r in
    let rest = are_names_after (before ++ x ∷ []) xs in
    and_from (is_name x) (not (is_among x before) && rest) p.0
    (and_from (not (is_among x before)) rest a.0 (listed_after (before ++ x ∷ []) xs p.1 (apart_more before x xs a.1 d.0) d.1))

listed : (p : Part) (xs : List Name) → unless (not (has_repeats xs)) Duplicate p ≡ None → list_all is_name xs ≡ true → are_names_after [] xs ≡ true
listed p xs h l = listed_after [] xs l (apart_none xs) (not-true (has_repeats xs) (unless_none (not (has_repeats xs)) Duplicate p h))

pub names_listed : (p : Part) (xs : List Name) → names_refusal p xs ≡ None → list_all is_name xs ≡ true → is_name_list xs ≡ true
names_listed p xs h l = grind (arith, passed_both, unless_none, listed)

pub sources_listed : (xs : List Name) → sources_refusal xs ≡ None → list_all is_name xs ≡ true → are_sources xs ≡ true
sources_listed xs h l = grind (arith, passed_both, unless_none, listed)
