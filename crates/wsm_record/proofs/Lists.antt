-- Tests over a list that a function was mapped over.
use Rattle.std.proofs.Common.{◌≡◌, ◌∙◌, ◌+◌, ◌||◌, ℕ, zero, Bool, not, cond, List, [], ◌∷◌, map, length, position, refl, ap, sym, true, false, ◌<◌, ◌++◌, suc, arith}
use Rattle.std.specs.Prelude.{Some, slice_get, bytes_eq}
use Rattle.wsm_record.specs.Name.{is_among, repeats_after}
use Rattle.std.proofs.lemmas.List.{length-map}
use Rattle.std.proofs.lemmas.List.Folds.{list_any-append}
use Rattle.std.proofs.lemmas.Slice.Eq.{bytes_eq-Decides}
use Rattle.std.proofs.lemmas.Bool.{lt-ltb}
use Rattle.std.specs.List.{list_any, prefix_len}

pub list_any-map : {X Y : Type 0} (p : Y → Bool) (f : X → Y) (xs : List X) → list_any p (map f xs) ≡ list_any (λ x. p (f x)) xs
list_any-map p f [] = refl
list_any-map p f (x ∷ xs) = ap (λ b. p (f x) || b) (list_any-map p f xs)

prefix_len-map : {X Y : Type 0} (p : Y → Bool) (f : X → Y) (xs : List X) → prefix_len p (map f xs) ≡ prefix_len (λ x. p (f x)) xs
prefix_len-map p f [] = refl
prefix_len-map p f (x ∷ xs) = ap (λ n. cond (p (f x)) (1 + n) 0) (prefix_len-map p f xs)

pub position-map : {X Y : Type 0} (p : Y → Bool) (f : X → Y) (xs : List X) → position p (map f xs) ≡ position (λ x. p (f x)) xs
position-map {X} {Y} p f xs =
    rw (prefix_len-map (λ y. not (p y)) f xs, length-map {A = X} {B = Y}) refl

pub not-false : (a b : Bool) → a ≡ not b → a ≡ false → b ≡ true
not-false a true e h = refl
not-false a false e h = sym h ∙ e

pub not-true : (a b : Bool) → a ≡ not b → a ≡ true → b ≡ false
not-true a true e h = sym h ∙ e
not-true a false e h = refl

pub or_left : (a b : Bool) → (a || b) ≡ false → a ≡ false
or_left true b h = h
or_left false b h = refl

pub or_right : (a b : Bool) → (a || b) ≡ false → b ≡ false
or_right true b h = cc
or_right false b h = h

some_same : {X : Type 0} (y x : X) → Some y ≡ Some x → x ≡ y
some_same y x e = cc

-- a name that is still to come isn't among those before
new_name : (xs before : List (List ℕ)) (i : ℕ) (x : List ℕ) → repeats_after before xs ≡ false → slice_get xs i ≡ Some x → is_among x before ≡ false
new_name [] before i x h e = cc
new_name (y ∷ ys) before zero x h e =
    ap (λ z. is_among z before) (some_same y x e) ∙ or_left (is_among y before) (repeats_after (before ++ y ∷ []) ys) h
new_name (y ∷ ys) before (suc i) x h e =
    or_left (is_among x before) (is_among x (y ∷ [])) (sym (list_any-append (bytes_eq x) before (y ∷ [])) ∙ new_name ys (before ++ y ∷ []) i x (or_right (is_among y before) (repeats_after (before ++ y ∷ []) ys) h) e)

-- of names that differ, the first with these bytes is the one that has them
first_with : (xs before : List (List ℕ)) (i : ℕ) (x : List ℕ) → repeats_after before xs ≡ false → slice_get xs i ≡ Some x → prefix_len (λ y. not (bytes_eq x y)) xs ≡ i
first_with [] before i x h e = cc
first_with (y ∷ ys) before zero x h e =
    let same : bytes_eq x y ≡ true = (bytes_eq-Decides x y).1 (some_same y x e) in
    rw same refl
first_with (y ∷ ys) before (suc i) x h e =
    let rest = or_right (is_among y before) (repeats_after (before ++ y ∷ []) ys) h in
    let differs : bytes_eq x y ≡ false = or_left (bytes_eq x y) false (or_right (is_among x before) (is_among x (y ∷ [])) (sym (list_any-append (bytes_eq x) before (y ∷ [])) ∙ new_name ys (before ++ y ∷ []) i x rest e)) in
    let one_more : 1 + i ≡ suc i = omega arith in
    rw (differs, first_with ys (before ++ y ∷ []) i x rest e) one_more

within_list : {X : Type 0} (xs : List X) (i : ℕ) (x : X) → slice_get xs i ≡ Some x → i < length xs
within_list [] i x e = cc
within_list (y ∷ ys) zero x e = omega arith
within_list (y ∷ ys) (suc i) x e = let rest = within_list ys i x e in omega (arith, rest)

-- a name's place, where names differ
pub position-distinct : (xs : List (List ℕ)) (i : ℕ) (x : List ℕ) → repeats_after [] xs ≡ false → slice_get xs i ≡ Some x → position (bytes_eq x) xs ≡ Some i
position-distinct xs i x h e = rw (first_with xs [] i x h e, lt-ltb i (length xs) (within_list xs i x e)) refl
