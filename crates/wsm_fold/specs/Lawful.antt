-- That the five folds keep the laws.
use Rattle.std.specs.Prelude.{◌≡◌, ℕ, suc, Bool, true, false, ◌||◌, ◌&&◌, List, [], ◌∷◌, length, IfSome, All, pos, ◌+ℤ◌, ◌*ℤ◌, ◌≤ℤ◌, refl}
use Rattle.std.specs.Int.{int_min, int_max}
use Rattle.std.proofs.Common.{arith, ◌∙◌}
use Rattle.std.proofs.lemmas.Int.{ints, clamps}
use Rattle.std.proofs.Math.IntN.{+ℤ_assoc, +ℤ_comm, suc_ℤ-*ℤ, zero-*ℤ}
use Rattle.wsm_fold.specs.Laws.{joined_to, fold_by, IsBetween, FoldLaws}

-- the order of truths: false is below true
abbrev pub Implies : Bool → Bool → Type 0
Implies a b = a ≡ true → b ≡ true

-- what an order of values gives: joined values rise with their parts, and the fold of one value more is its join
pub record Rises {A : Type 0} (joined : A → A → A) (AtMost : A → A → Type 0) (times : ℕ → A → A) : Type 0 where
  pub together : (a b c d : A) → AtMost a b → AtMost c d → AtMost (joined a c) (joined b d)
  pub one : (x : A) → times 1 x ≡ x
  pub one_more : (n : ℕ) (x : A) → times (suc (suc n)) x ≡ joined x (times (suc n) x)

module _ {A : Type 0} {joined : A → A → A} {AtMost : A → A → Type 0} {times : ℕ → A → A} (rises : Rises joined AtMost times) where
  InRange : ℕ → A → A → A → Type 0
  InRange n lo hi = IsBetween AtMost (times n lo) (times n hi)

  first_in_range : (lo hi x : A) → IsBetween AtMost lo hi x → IsBetween AtMost (times 1 lo) (times 1 hi) x
  first_in_range lo hi x p = rw (rises.one lo, rises.one hi) p

  more_in_range : (n : ℕ) (lo hi x y : A) → IsBetween AtMost lo hi x → IsBetween AtMost (times (suc n) lo) (times (suc n) hi) y
      → IsBetween AtMost (times (suc (suc n)) lo) (times (suc (suc n)) hi) (joined x y)
  more_in_range n lo hi x y p q =
      rw (rises.one_more n lo, rises.one_more n hi) (record { from = rises.together _ _ _ _ p.from q.from; to = rises.together _ _ _ _ p.to q.to })

  pub ranges : (lo hi x : A) (xs : List A) → All (IsBetween AtMost lo hi) (x ∷ xs)
      → IsBetween AtMost (times (suc (length xs)) lo) (times (suc (length xs)) hi) (joined_to joined x (fold_by joined xs))
  ranges lo hi x [] h = first_in_range lo hi x (h 0 x (omega arith))
  ranges lo hi x (y ∷ ys) h =
      more_in_range (length ys) lo hi x _ (h 0 x (omega arith)) (ranges lo hi y ys (λ k d lt. h (suc k) d (omega (arith, lt))))

  pub in_range_of : (lo hi : A) (xs : List A) → All (IsBetween AtMost lo hi) xs
      → IfSome (fold_by joined xs) (IsBetween AtMost (times (length xs) lo) (times (length xs) hi))
  in_range_of lo hi [] h = tt
  in_range_of lo hi (x ∷ xs) h = ranges lo hi x xs h

-- ---- numbers

sum_rises : Rises ◌+ℤ◌ ◌≤ℤ◌ (λ n x. pos n *ℤ x)
sum_rises = record {
  together = λ a b c d p q. omega (arith, ints, p, q);
  one = λ x. omega (arith, ints, suc_ℤ-*ℤ (pos 0) x, zero-*ℤ x);
  one_more = λ n x. suc_ℤ-*ℤ (pos (suc n)) x ∙ +ℤ_comm _ x;
}

pub sum_laws : FoldLaws ◌+ℤ◌ ◌≤ℤ◌ (λ n x. pos n *ℤ x)
sum_laws = record { commutative = +ℤ_comm; associative = +ℤ_assoc; in_range = in_range_of sum_rises }

min_rises : Rises int_min ◌≤ℤ◌ (λ n x. x)
min_rises = record {
  together = λ a b c d p q. omega (arith, ints, clamps, p, q);
  one = λ x. refl;
  one_more = λ n x. omega (arith, ints, clamps);
}

pub min_laws : FoldLaws int_min ◌≤ℤ◌ (λ n x. x)
min_laws = record {
  commutative = λ x y. omega (arith, ints, clamps);
  associative = λ x y z. omega (arith, ints, clamps);
  in_range = in_range_of min_rises;
}

max_rises : Rises int_max ◌≤ℤ◌ (λ n x. x)
max_rises = record {
  together = λ a b c d p q. omega (arith, ints, clamps, p, q);
  one = λ x. refl;
  one_more = λ n x. omega (arith, ints, clamps);
}

pub max_laws : FoldLaws int_max ◌≤ℤ◌ (λ n x. x)
max_laws = record {
  commutative = λ x y. omega (arith, ints, clamps);
  associative = λ x y z. omega (arith, ints, clamps);
  in_range = in_range_of max_rises;
}

-- ---- truths

or_comm : (a b : Bool) → (a || b) ≡ (b || a)
or_comm true true = refl
or_comm true false = refl
or_comm false true = refl
or_comm false false = refl

or_assoc : (a b c : Bool) → ((a || b) || c) ≡ (a || (b || c))
or_assoc true b c = refl
or_assoc false b c = refl

or_same : (a : Bool) → a ≡ (a || a)
or_same true = refl
or_same false = refl

or_rises : (a b c d : Bool) → Implies a b → Implies c d → Implies (a || c) (b || d)
or_rises true true c d p q e = refl
or_rises true false c d p q e = cc (p refl)
or_rises false true c d p q e = refl
or_rises false false c d p q e = q e

any_rises : Rises ◌||◌ Implies (λ n x. x)
any_rises = record { together = or_rises; one = λ x. refl; one_more = λ n x. or_same x }

pub any_laws : FoldLaws ◌||◌ Implies (λ n x. x)
any_laws = record { commutative = or_comm; associative = or_assoc; in_range = in_range_of any_rises }

and_comm : (a b : Bool) → (a && b) ≡ (b && a)
and_comm true true = refl
and_comm true false = refl
and_comm false true = refl
and_comm false false = refl

and_assoc : (a b c : Bool) → ((a && b) && c) ≡ (a && (b && c))
and_assoc true b c = refl
and_assoc false b c = refl

and_same : (a : Bool) → a ≡ (a && a)
and_same true = refl
and_same false = refl

and_rises : (a b c d : Bool) → Implies a b → Implies c d → Implies (a && c) (b && d)
and_rises true b c d p q e = rw (p refl) (q e)
and_rises false b c d p q e = cc

all_rises : Rises ◌&&◌ Implies (λ n x. x)
all_rises = record { together = and_rises; one = λ x. refl; one_more = λ n x. and_same x }

pub all_laws : FoldLaws ◌&&◌ Implies (λ n x. x)
all_laws = record { commutative = and_comm; associative = and_assoc; in_range = in_range_of all_rises }
