-- What is thinned once more, at later times, is what is thinned at those alone.
use Rattle.std.proofs.Common.{◌≡◌, ℕ, Bool, true, false, cond, not, List, [], ◌∷◌, ◌++◌, map, ℤ, ◌≤ℤ◌, refl, sym, ap, subst, ◌∙◌, ⊎_elim, arith}
use Rattle.std.proofs.lemmas.Int.{ints}
use Rattle.std.proofs.lemmas.Bool.{true≢false, eqb-true, or_cases, or_left, or_right}
use Rattle.std.specs.Prelude.{filter, int_lt, nat_eq}
use Rattle.std.specs.List.{AllByRecursion}
use Rattle.wsm_semantics.specs.FromWatermark.{Times}
use Rattle.wsm_semantics.specs.Needed.{is_one_of}
use Rattle.wsm_keep.specs.declared.what.What.{What}
use Rattle.wsm_keep.specs.declared.what.What.TheVariants.{Selected, Accepted, Idle}
use Rattle.wsm_keep.specs.Staying.{stays, told_after, thinned, done_by}
use Rattle.wsm_keep.specs.Holds.{time_if, times_in, IsAbove}

abbrev AreWithin : List ℕ → List ℕ → Type 0
AreWithin told more = (s : ℕ) → is_one_of told s ≡ true → is_one_of more s ≡ true

none_within : (more : List ℕ) → AreWithin [] more
none_within more s h = absurd (true≢false (sym h))

one_more_within : (n : ℕ) (told more : List ℕ) → AreWithin told more → AreWithin (n ∷ told) (n ∷ more)
one_more_within n told more within s h = ⊎_elim (λ (e : nat_eq n s ≡ true). or_left (nat_eq n s) (is_one_of more s) e) (λ (e : is_one_of told s ≡ true). or_right (nat_eq n s) (is_one_of more s) (within s e)) (or_cases (nat_eq n s) (is_one_of told s) h)

known_within : (n : ℕ) (told more : List ℕ) → is_one_of more n ≡ true → AreWithin told more → AreWithin (n ∷ told) more
known_within n told more known within s h = ⊎_elim (λ (e : nat_eq n s ≡ true). subst (λ (m : ℕ). is_one_of more m ≡ true) (eqb-true n s e) known) (λ (e : is_one_of told s ≡ true). within s e) (or_cases (nat_eq n s) (is_one_of told s) h)

no_later_either : (x y t : ℤ) → x ≤ℤ y → int_lt x t ≡ false → int_lt y t ≡ false
no_later_either x y t h k = grind (arith, ints)

module _ {A : Type 0} (does : A → What) where
  -- one in front of others, by what it does
  abbrev next : Times → List ℕ → A → List A → What → List A
  next y more a rest w = cond (stays y more w) (a ∷ thinned does y (told_after more w) rest) (thinned does y more rest)

  module _ (x y : Times) (later : (key : ℕ) → x key ≤ℤ y key) where
    pub thinned_again : (told more : List ℕ) → AreWithin told more → (rows : List A) → thinned does y more (thinned does x told rows) ≡ thinned does y more rows
    thinned_again told more within [] = refl
    thinned_again told more within (a ∷ before) = by (λ told more within. thinned_again told more within before) (does a) refl where
      by : ((told more : List ℕ) → AreWithin told more → thinned does y more (thinned does x told before) ≡ thinned does y more before) → (w : What) → does a ≡ w → thinned does y more (next x told a before w) ≡ next y more a before w
      by again (Selected k t) is =
          elim (int_lt (x k) t) as (λ b. int_lt (x k) t ≡ b → thinned does y more (cond b (a ∷ thinned does x [] before) (thinned does x told before)) ≡ next y more a before (Selected k t)) [
            | true ↦ λ _.
                ap (next y more a (thinned does x [] before)) is
                ∙ (λ i. cond (int_lt (y k) t) (a ∷ again [] [] (none_within []) i) (again [] more (none_within more) i))
            | false ↦ λ early.
                again told more within
                ∙ sym (ap (λ (b : Bool). cond b (a ∷ thinned does y [] before) (thinned does y more before)) (no_later_either (x k) (y k) t (later k) early))
          ] refl
      by again (Accepted s) is =
          elim (is_one_of told s) as (λ b. is_one_of told s ≡ b → thinned does y more (cond (not b) (a ∷ thinned does x (s ∷ told) before) (thinned does x told before)) ≡ next y more a before (Accepted s)) [
            | true ↦ λ known.
                again told more within
                ∙ sym (ap (λ (b : Bool). cond (not b) (a ∷ thinned does y (s ∷ more) before) (thinned does y more before)) (within s known))
            | false ↦ λ _.
                ap (next y more a (thinned does x (s ∷ told) before)) is
                ∙ elim (is_one_of more s) as (λ b. is_one_of more s ≡ b → cond (not b) (a ∷ thinned does y (s ∷ more) (thinned does x (s ∷ told) before)) (thinned does y more (thinned does x (s ∷ told) before)) ≡ cond (not b) (a ∷ thinned does y (s ∷ more) before) (thinned does y more before)) [
                  | true ↦ λ known. again (s ∷ told) more (known_within s told more known within)
                  | false ↦ λ _. ap (λ (bs : List A). a ∷ bs) (again (s ∷ told) (s ∷ more) (one_more_within s told more within))
                ] refl
          ] refl
      by again Idle is = again told more within

    pub thinned_twice : (more : List ℕ) (rows : List A) → thinned does y more (thinned does x [] rows) ≡ thinned does y more rows
    thinned_twice more rows = thinned_again [] more (none_within more) rows

  -- where all times are the same
  pub thinned_same : (x y : Times) → ((key : ℕ) → x key ≡ y key) → (told : List ℕ) (rows : List A) → thinned does x told rows ≡ thinned does y told rows
  thinned_same x y same told [] = refl
  thinned_same x y same told (a ∷ before) = by (λ told. thinned_same x y same told before) (does a) where
    by : ((told : List ℕ) → thinned does x told before ≡ thinned does y told before) → (w : What) → next x told a before w ≡ next y told a before w
    by again (Selected k t) = λ i. cond (int_lt (same k i) t) (a ∷ again [] i) (again told i)
    by again (Accepted s) = λ i. cond (not (is_one_of told s)) (a ∷ again (s ∷ told) i) (again told i)
    by again Idle = again told

-- of other elements that do the same
module _ {A B : Type 0} (f : A → B) (does : A → What) (as_well : B → What) (alike : (a : A) → as_well (f a) ≡ does a) where
  pub thinned-map : (x : Times) (told : List ℕ) (rows : List A) → thinned as_well x told (map f rows) ≡ map f (thinned does x told rows)
  thinned-map x told [] = refl
  thinned-map x told (a ∷ before) = ap (λ (w : What). next as_well x told (f a) (map f before) w) (alike a) ∙ by (λ told. thinned-map x told before) (does a) where
    by : ((told : List ℕ) → thinned as_well x told (map f before) ≡ map f (thinned does x told before)) → (w : What) → next as_well x told (f a) (map f before) w ≡ map f (next does x told a before w)
    by again (Selected k t) =
        elim (int_lt (x k) t) as (λ b. cond b (f a ∷ thinned as_well x [] (map f before)) (thinned as_well x told (map f before)) ≡ map f (cond b (a ∷ thinned does x [] before) (thinned does x told before))) [
          | true ↦ ap (λ (bs : List B). f a ∷ bs) (again [])
          | false ↦ again told
        ]
    by again (Accepted s) =
        elim (is_one_of told s) as (λ b. cond (not b) (f a ∷ thinned as_well x (s ∷ told) (map f before)) (thinned as_well x told (map f before)) ≡ map f (cond (not b) (a ∷ thinned does x (s ∷ told) before) (thinned does x told before))) [
          | true ↦ again told
          | false ↦ ap (λ (bs : List B). f a ∷ bs) (again (s ∷ told))
        ]
    by again Idle = again told

-- ---- the times of a key

module _ {A : Type 0} (x : Times) where
  -- what stays is later
  pub above_thinned : (told : List ℕ) (ds : List (What × A)) → AllByRecursion (λ d. IsAbove x d.0) (thinned done_by x told ds)
  above_thinned told [] = tt
  above_thinned told (d ∷ ds) = by (λ told. above_thinned told ds) d.0 refl where
    by : ((told : List ℕ) → AllByRecursion (λ (d : What × A). IsAbove x d.0) (thinned done_by x told ds)) → (w : What) → d.0 ≡ w → AllByRecursion (λ (d : What × A). IsAbove x d.0) (next done_by x told d ds w)
    by again (Selected k t) is =
        elim (int_lt (x k) t) as (λ b. int_lt (x k) t ≡ b → AllByRecursion (λ (d : What × A). IsAbove x d.0) (cond b (d ∷ thinned done_by x [] ds) (thinned done_by x told ds))) [
          | true ↦ λ h. (subst (IsAbove x) (sym is) h, again [])
          | false ↦ λ _. again told
        ] refl
    by again (Accepted s) is =
        elim (is_one_of told s) as (λ b. AllByRecursion (λ (d : What × A). IsAbove x d.0) (cond (not b) (d ∷ thinned done_by x (s ∷ told) ds) (thinned done_by x told ds))) [
          | true ↦ again told
          | false ↦ (subst (IsAbove x) (sym is) tt, again (s ∷ told))
        ]
    by again Idle is = again told

  module _ (key : ℕ) where
    pub times_thinned : (told : List ℕ) (ds : List (What × A)) → times_in key (thinned done_by x told ds) ≡ filter (λ t. int_lt (x key) t) (times_in key ds)
    times_thinned told [] = refl
    times_thinned told (d ∷ ds) = by (λ told. times_thinned told ds) d.0 refl where
      by : ((told : List ℕ) → times_in key (thinned done_by x told ds) ≡ filter (λ t. int_lt (x key) t) (times_in key ds)) → (w : What) → d.0 ≡ w → times_in key (next done_by x told d ds w) ≡ filter (λ t. int_lt (x key) t) (time_if key w ++ times_in key ds)
      by again (Selected k t) is =
          elim (int_lt (x k) t) as (λ b. int_lt (x k) t ≡ b → times_in key (cond b (d ∷ thinned done_by x [] ds) (thinned done_by x told ds)) ≡ filter (λ t. int_lt (x key) t) (cond (nat_eq k key) (t ∷ []) [] ++ times_in key ds)) [
            | true ↦ λ h.
                (λ i. time_if key (is i) ++ again [] i)
                ∙ elim (nat_eq k key) as (λ c. nat_eq k key ≡ c → cond c (t ∷ []) [] ++ filter (λ t. int_lt (x key) t) (times_in key ds) ≡ filter (λ t. int_lt (x key) t) (cond c (t ∷ []) [] ++ times_in key ds)) [
                  | true ↦ λ mine. sym (ap (λ (b : Bool). cond b (t ∷ filter (λ t. int_lt (x key) t) (times_in key ds)) (filter (λ t. int_lt (x key) t) (times_in key ds))) (subst (λ (n : ℕ). int_lt (x n) t ≡ true) (eqb-true k key mine) h))
                  | false ↦ λ _. refl
                ] refl
            | false ↦ λ h.
                again told
                ∙ elim (nat_eq k key) as (λ c. nat_eq k key ≡ c → filter (λ t. int_lt (x key) t) (times_in key ds) ≡ filter (λ t. int_lt (x key) t) (cond c (t ∷ []) [] ++ times_in key ds)) [
                  | true ↦ λ mine. sym (ap (λ (b : Bool). cond b (t ∷ filter (λ t. int_lt (x key) t) (times_in key ds)) (filter (λ t. int_lt (x key) t) (times_in key ds))) (subst (λ (n : ℕ). int_lt (x n) t ≡ false) (eqb-true k key mine) h))
                  | false ↦ λ _. refl
                ] refl
          ] refl
      by again (Accepted s) is =
          elim (is_one_of told s) as (λ b. times_in key (cond (not b) (d ∷ thinned done_by x (s ∷ told) ds) (thinned done_by x told ds)) ≡ filter (λ t. int_lt (x key) t) (times_in key ds)) [
            | true ↦ again told
            | false ↦ (λ i. time_if key (is i) ++ again (s ∷ told) i)
          ]
      by again Idle is = again told

    -- all of them are later where each is
    pub later_times : (ds : List (What × A)) → AllByRecursion (λ d. IsAbove x d.0) ds → filter (λ t. int_lt (x key) t) (times_in key ds) ≡ times_in key ds
    later_times [] above = refl
    later_times (d ∷ ds) above = by (later_times ds above.1) d.0 above.0 where
      by : filter (λ t. int_lt (x key) t) (times_in key ds) ≡ times_in key ds → (w : What) → IsAbove x w → filter (λ t. int_lt (x key) t) (time_if key w ++ times_in key ds) ≡ time_if key w ++ times_in key ds
      by again (Selected k t) h =
          elim (nat_eq k key) as (λ c. nat_eq k key ≡ c → filter (λ t. int_lt (x key) t) (cond c (t ∷ []) [] ++ times_in key ds) ≡ cond c (t ∷ []) [] ++ times_in key ds) [
            | true ↦ λ mine. ap (λ (b : Bool). cond b (t ∷ filter (λ t. int_lt (x key) t) (times_in key ds)) (filter (λ t. int_lt (x key) t) (times_in key ds))) (subst (λ (n : ℕ). int_lt (x n) t ≡ true) (eqb-true k key mine) h) ∙ ap (λ (ts : List ℤ). t ∷ ts) (again)
            | false ↦ λ _. again
          ] refl
      by again (Accepted s) h = again
      by again Idle h = again
