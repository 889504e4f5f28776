-- Rows of values that are joined place by place.
use Rattle.std.proofs.Common.{◌≡◌, ℕ, zero, suc, ◌-◌, ◌<◌, true, List, [], ◌∷◌, ◌++◌, length, get_or, set, take, drop, replicate, ◌≤◌, length-append, length-drop, length-take, refl, sym, ap, ◌∙◌, arith, take-append-drop}
use Rattle.std.proofs.Math.Seq.{take-nil, drop-append_seam}
use Rattle.std.proofs.lemmas.List.{append-nil, drop_all, length-replicate, drop-replicate}
use Rattle.std.proofs.lemmas.Bool.{true≢false, and_parts}
use Rattle.wsm_record.specs.declared.event.Value.{Value}
use Rattle.wsm_record.specs.declared.event.Value.TheVariants.{Int, Bool as Truth}
use Rattle.wsm_record.specs.declared.words.Kind.{Kind}
use Rattle.wsm_record.specs.declared.words.Kind.TheVariants.{Sum, Min, Max, Any, All}
use Rattle.wsm_fold.specs.Lawful.{sum_laws, min_laws, max_laws, any_laws, all_laws}
use Rattle.wsm_fold.specs.Fold.{is_of_kind, are_of_kinds, number_of, truth_of, join, joins}
use Rattle.wsm_fold.specs.Accumulators.{SumFits, SumsFit}

-- ---- the laws of a kind, and of a row of kinds

pub join_comm : (k : Kind) (a b : Value) → join k a b ≡ join k b a
join_comm Sum a b = ap Int (sum_laws.commutative (number_of a) (number_of b))
join_comm Min a b = ap Int (min_laws.commutative (number_of a) (number_of b))
join_comm Max a b = ap Int (max_laws.commutative (number_of a) (number_of b))
join_comm Any a b = ap Truth (any_laws.commutative (truth_of a) (truth_of b))
join_comm All a b = ap Truth (all_laws.commutative (truth_of a) (truth_of b))

pub join_assoc : (k : Kind) (a b c : Value) → join k (join k a b) c ≡ join k a (join k b c)
join_assoc Sum a b c = ap Int (sum_laws.associative (number_of a) (number_of b) (number_of c))
join_assoc Min a b c = ap Int (min_laws.associative (number_of a) (number_of b) (number_of c))
join_assoc Max a b c = ap Int (max_laws.associative (number_of a) (number_of b) (number_of c))
join_assoc Any a b c = ap Truth (any_laws.associative (truth_of a) (truth_of b) (truth_of c))
join_assoc All a b c = ap Truth (all_laws.associative (truth_of a) (truth_of b) (truth_of c))

pub joins_comm : (ks : List Kind) (xs ys : List Value) → joins ks xs ys ≡ joins ks ys xs
joins_comm [] xs ys = refl
joins_comm (k ∷ ks) [] [] = refl
joins_comm (k ∷ ks) [] (y ∷ ys) = refl
joins_comm (k ∷ ks) (x ∷ xs) [] = refl
joins_comm (k ∷ ks) (x ∷ xs) (y ∷ ys) = rw (join_comm k x y, joins_comm ks xs ys) refl

pub joins_assoc : (ks : List Kind) (xs ys zs : List Value) → joins ks (joins ks xs ys) zs ≡ joins ks xs (joins ks ys zs)
joins_assoc [] xs ys zs = refl
joins_assoc (k ∷ ks) [] ys zs = refl
joins_assoc (k ∷ ks) (x ∷ xs) [] zs = refl
joins_assoc (k ∷ ks) (x ∷ xs) (y ∷ ys) [] = refl
joins_assoc (k ∷ ks) (x ∷ xs) (y ∷ ys) (z ∷ zs) = rw (join_assoc k x y z, joins_assoc ks xs ys zs) refl

-- ---- types

-- there is a value for each kind
pub length-are_of_kinds : (ks : List Kind) (vs : List Value) → are_of_kinds ks vs ≡ true → length vs ≡ length ks
length-are_of_kinds [] [] e = refl
length-are_of_kinds [] (v ∷ vs) e = absurd (true≢false (sym e))
length-are_of_kinds (k ∷ ks) [] e = absurd (true≢false (sym e))
length-are_of_kinds (k ∷ ks) (v ∷ vs) e = omega (arith, length-are_of_kinds ks vs ((and_parts (is_of_kind k v) _ e).1))

is_of_kind-join : (k : Kind) (a b : Value) → is_of_kind k (join k a b) ≡ true
is_of_kind-join Sum a b = refl
is_of_kind-join Min a b = refl
is_of_kind-join Max a b = refl
is_of_kind-join Any a b = refl
is_of_kind-join All a b = refl

pub are_of_kinds-joins : (ks : List Kind) (xs ys : List Value) → length xs ≡ length ks → length ys ≡ length ks → are_of_kinds ks (joins ks xs ys) ≡ true
are_of_kinds-joins [] xs ys p q = refl
are_of_kinds-joins (k ∷ ks) [] ys p q = absurd (omega arith)
are_of_kinds-joins (k ∷ ks) (x ∷ xs) [] p q = absurd (omega arith)
are_of_kinds-joins (k ∷ ks) (x ∷ xs) (y ∷ ys) p q = rw (is_of_kind-join k x y) (are_of_kinds-joins ks xs ys (omega arith) (omega arith))

-- ---- joined in place

-- the first n places are joined, and the rest not yet
abbrev pub joined_up_to : ℕ → List Kind → List Value → List Value → List Value
joined_up_to (suc n) (k ∷ ks) (x ∷ xs) (y ∷ ys) = join k x y ∷ joined_up_to n ks xs ys
joined_up_to n ks xs ys = xs

-- there are a kind and a place for each value
pub record HasPlaces (ks : List Kind) (xs ys : List Value) : Type 0 where
  pub kinds : length ys ≤ length ks
  pub places : length ys ≤ length xs

has_places_left : (k : Kind) (ks : List Kind) (x : Value) (xs : List Value) (y : Value) (ys : List Value) → HasPlaces (k ∷ ks) (x ∷ xs) (y ∷ ys) → HasPlaces ks xs ys
has_places_left k ks x xs y ys a = record { kinds = omega (arith, a.kinds); places = omega (arith, a.places) }

-- one place more
pub joined_up_to_more : (n : ℕ) (ks : List Kind) (xs ys : List Value) (k : Kind) (x y : Value) → HasPlaces ks xs ys → n < length ys
    → set (joined_up_to n ks xs ys) n (join (get_or ks n k) (get_or (joined_up_to n ks xs ys) n x) (get_or ys n y)) ≡ joined_up_to (suc n) ks xs ys
joined_up_to_more n ks xs [] k x y a h = absurd (omega (arith, h))
joined_up_to_more n [] xs (w ∷ ys) k x y a h = absurd (omega (arith, a.kinds))
joined_up_to_more n (l ∷ ks) [] (w ∷ ys) k x y a h = absurd (omega (arith, a.places))
joined_up_to_more zero (l ∷ ks) (v ∷ xs) (w ∷ ys) k x y a h = refl
joined_up_to_more (suc n) (l ∷ ks) (v ∷ xs) (w ∷ ys) k x y a h =
    ap (λ r. join l v w ∷ r) (joined_up_to_more n ks xs ys k x y (has_places_left l ks v xs w ys a) (omega (arith, h)))

pub fits_at : (n : ℕ) (ks : List Kind) (xs ys : List Value) (k : Kind) (x y : Value) → HasPlaces ks xs ys → n < length ys → SumsFit ks xs ys
    → SumFits (get_or ks n k) (get_or (joined_up_to n ks xs ys) n x) (get_or ys n y)
fits_at n ks xs [] k x y a h f = absurd (omega (arith, h))
fits_at n [] xs (w ∷ ys) k x y a h f = absurd (omega (arith, a.kinds))
fits_at n (l ∷ ks) [] (w ∷ ys) k x y a h f = absurd (omega (arith, a.places))
fits_at zero (l ∷ ks) (v ∷ xs) (w ∷ ys) k x y a h f = f.0
fits_at (suc n) (l ∷ ks) (v ∷ xs) (w ∷ ys) k x y a h f = fits_at n ks xs ys k x y (has_places_left l ks v xs w ys a) (omega (arith, h)) f.1

-- all places
pub joined_up_to_all : (ks : List Kind) (xs ys : List Value) → HasPlaces ks xs ys → take (length ys) (joined_up_to (length ys) ks xs ys) ≡ joins ks xs ys
joined_up_to_all [] [] [] a = refl
joined_up_to_all [] (x ∷ xs) [] a = refl
joined_up_to_all (k ∷ ks) [] [] a = refl
joined_up_to_all (k ∷ ks) (x ∷ xs) [] a = refl
joined_up_to_all [] xs (y ∷ ys) a = absurd (omega (arith, a.kinds))
joined_up_to_all (k ∷ ks) [] (y ∷ ys) a = absurd (omega (arith, a.places))
joined_up_to_all (k ∷ ks) (x ∷ xs) (y ∷ ys) a = ap (λ r. join k x y ∷ r) (joined_up_to_all ks xs ys (has_places_left k ks x xs y ys a))

-- ---- a row that is shorter than what it is joined to

no_joins : (ks : List Kind) (xs : List Value) → joins ks xs [] ≡ []
no_joins [] xs = refl
no_joins (k ∷ ks) [] = refl
no_joins (k ∷ ks) (x ∷ xs) = refl

pub joins-take : (n : ℕ) (ks : List Kind) (xs ys : List Value) → length ys ≤ n → joins ks (take n xs) ys ≡ joins ks xs ys
joins-take n [] xs ys h = refl
joins-take n (k ∷ ks) [] ys h = rw (take-nil {A = Value} n) refl
joins-take n (k ∷ ks) (x ∷ xs) [] h = no_joins (k ∷ ks) (take n (x ∷ xs))
joins-take zero (k ∷ ks) (x ∷ xs) (y ∷ ys) h = absurd (omega (arith, h))
joins-take (suc n) (k ∷ ks) (x ∷ xs) (y ∷ ys) h = ap (λ r. join k x y ∷ r) (joins-take n ks xs ys (omega (arith, h)))

pub SumsFit-take : (n : ℕ) (ks : List Kind) (xs ys : List Value) → length ys ≤ n → SumsFit ks (take n xs) ys → SumsFit ks xs ys
SumsFit-take n [] xs ys h f = tt
SumsFit-take n (k ∷ ks) [] ys h f = tt
SumsFit-take n (k ∷ ks) (x ∷ xs) [] h f = tt
SumsFit-take zero (k ∷ ks) (x ∷ xs) (y ∷ ys) h f = absurd (omega (arith, h))
SumsFit-take (suc n) (k ∷ ks) (x ∷ xs) (y ∷ ys) h f = (f.0, SumsFit-take n ks xs ys (omega (arith, h)) f.1)

-- and what lies behind them stays
pub joined_up_to_rest : (n : ℕ) (ks : List Kind) (xs ys : List Value) → drop n (joined_up_to n ks xs ys) ≡ drop n xs
joined_up_to_rest zero ks xs ys = refl
joined_up_to_rest (suc n) [] xs ys = refl
joined_up_to_rest (suc n) (k ∷ ks) [] ys = refl
joined_up_to_rest (suc n) (k ∷ ks) (x ∷ xs) [] = refl
joined_up_to_rest (suc n) (k ∷ ks) (x ∷ xs) (y ∷ ys) = joined_up_to_rest n ks xs ys

-- ---- values in the first n places

-- as many places as kinds are in use, and so a row can be joined to them
pub record AreHeld (ks : List Kind) (n : ℕ) (places held values : List Value) : Type 0 where
  pub held_is : take n places ≡ held
  pub room : n ≤ length places
  pub held_types : are_of_kinds ks held ≡ true
  pub types : are_of_kinds ks values ≡ true

module _ (ks : List Kind) (n : ℕ) (places held values : List Value) (a : AreHeld ks n places held values) where
  pub row_length : length values ≡ n
  row_length =
      omega (arith, length-are_of_kinds ks values a.types, length-are_of_kinds ks held a.held_types, simp length-take at (ap length a.held_is), a.room)

  pub row_has_places : HasPlaces ks places values
  row_has_places = record { kinds = omega (arith, length-are_of_kinds ks values a.types); places = omega (arith, row_length, a.room) }

  pub row_sums : SumsFit ks held values → SumsFit ks places values
  row_sums fit = SumsFit-take n ks places values (omega (arith, row_length)) (rw (← a.held_is) at fit)

  pub row_joined : (new : List Value) → take (length values) new ≡ joins ks places values → take n new ≡ joins ks held values
  row_joined new e =
      ap (λ k. take k new) (sym row_length) ∙ e ∙ sym (joins-take n ks places values (omega (arith, row_length))) ∙ ap (λ xs. joins ks xs values) a.held_is

-- ---- a row copied into blank places

pub copied_among : (n : ℕ) (z : Value) (xs copy : List Value) → copy ≡ xs → length xs ≤ n → length (copy ++ drop (length xs) (replicate n z)) ≡ n
copied_among n z xs copy e h = simp (e, length-append, length-drop, length-replicate) (omega (arith, h))

pub blank_behind : (n : ℕ) (z : Value) (xs copy : List Value) → copy ≡ xs → drop (length xs) (copy ++ drop (length xs) (replicate n z)) ≡ replicate (n - length xs) z
blank_behind n z xs copy e =
    ap (λ ys. drop (length xs) (ys ++ drop (length xs) (replicate n z))) e ∙ drop-append_seam xs (drop (length xs) (replicate n z)) ∙ drop-replicate (length xs) n z

-- ---- a row in all of its places

pub filled_up : (n : ℕ) (old new row : List Value) → length old ≡ n → take n new ≡ row → drop n new ≡ drop n old → new ≡ row
filled_up n old new row all front rest =
    sym (take-append-drop n new) ∙ ap (λ xs. take n new ++ xs) (rest ∙ drop_all n old (omega (arith, all))) ∙ append-nil (take n new) ∙ front
