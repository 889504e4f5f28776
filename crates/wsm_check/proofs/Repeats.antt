-- A list repeats a name where one stands among those before it.
use Rattle.std.proofs.Common.{◌≡◌, ◌∙◌, ◌||◌, ◌++◌, Bool, true, false, List, [], ◌∷◌, bytes_eq, refl, sym, ap, ap₂, arith}
use Rattle.std.proofs.lemmas.Slice.Eq.{bytes_eq-Decides}
use Rattle.std.specs.List.{list_any}
use Rattle.std.proofs.Math.Bool.{or-false}
use Rattle.std.proofs.lemmas.Bool.Decides.{same_from_decides}
use Rattle.wsm_record.specs.Name.{is_among, repeats_after}
use Rattle.wsm_query.specs.Tree.{Name}
use Rattle.wsm_check.specs.Names.{has_repeats}

pub same_either_way : (x y : Name) → bytes_eq x y ≡ bytes_eq y x
same_either_way x y =
    same_from_decides (bytes_eq x y) (bytes_eq y x) (bytes_eq-Decides x y) (λ e. sym ((bytes_eq-Decides y x).0 e), λ e. (bytes_eq-Decides y x).1 (sym e))

swapped : (a b c d : Bool) → ((a || b) || (c || d)) ≡ ((a || c) || (b || d))
swapped a b c d = grind arith

grouped : (a b c d : Bool) → (a || ((b || c) || d)) ≡ ((a || b) || (c || d))
grouped a b c d = grind arith

among_more : (x y : Name) (before : List Name) → is_among y (before ++ x ∷ []) ≡ (is_among y before || bytes_eq x y)
among_more x y [] = or-false (bytes_eq y x) ∙ same_either_way y x
among_more x y (z ∷ before) = ap (λ b. bytes_eq y z || b) (among_more x y before) ∙ moved (bytes_eq y z) _ _
  where
    moved : (a b c : Bool) → (a || (b || c)) ≡ ((a || b) || c)
    moved true b c = refl
    moved false b c = refl

some_more : (x : Name) (before xs : List Name) → list_any (λ y. is_among y (before ++ x ∷ [])) xs ≡ (list_any (λ y. is_among y before) xs || is_among x xs)
some_more x before [] = refl
some_more x before (y ∷ xs) =
    ap₂ (λ a b. a || b) (among_more x y before) (some_more x before xs) ∙ swapped (is_among y before) (bytes_eq x y) (list_any (λ z. is_among z before) xs) (is_among x xs)

repeats_behind : (before xs : List Name) → repeats_after before xs ≡ (list_any (λ y. is_among y before) xs || has_repeats xs)
repeats_behind before [] = refl
repeats_behind before (x ∷ xs) =
    ap (λ b. is_among x before || b) (repeats_behind (before ++ x ∷ []) xs ∙ ap (λ b. b || has_repeats xs) (some_more x before xs))
    ∙ grouped (is_among x before) (list_any (λ y. is_among y before) xs) (is_among x xs) (has_repeats xs)

none_among : (xs : List Name) → list_any (λ y. is_among y []) xs ≡ false
none_among [] = refl
none_among (x ∷ xs) = none_among xs

pub repeats_is : (xs : List Name) → repeats_after [] xs ≡ has_repeats xs
repeats_is xs = repeats_behind [] xs ∙ ap (λ b. b || has_repeats xs) (none_among xs)
