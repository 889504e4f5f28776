-- Each operation on intervals holds every result on the numbers that its operands hold.
use Rattle.std.proofs.Common.{◌≡◌, ℕ, zero, suc, ◌/◌, ◌%◌, ◌<◌, ◌≤◌, true, false, ◌&&◌, cond, ℤ, pos, negsuc, neg_ℤ, ◌+ℤ◌, ◌-ℤ◌, ◌*ℤ◌, ◌≤ℤ◌, Some, None, refl, arith}
use Rattle.std.proofs.lemmas.Int.{ints}
use Rattle.std.proofs.lemmas.Nat.{le-div}
use Rattle.std.proofs.Math.Nat.{div-mul-le_self, mul-le-mul_right, mul-le-mul_left}
use Rattle.std.proofs.Math.IntN.{*ℤ_comm}
use Rattle.std.specs.Prelude.{IfSome, int_le, int_div, int_rem, unsigned_abs}
use Rattle.std.specs.Int.{int_min, int_max}
use Rattle.wsm_interval.specs.Arithmetic.{result_of}
use Rattle.wsm_interval.specs.declared.arithmetic.Arithmetic.{Arithmetic}
use Rattle.wsm_interval.specs.declared.arithmetic.Arithmetic.TheVariants.{Add, Sub, Mul, Div, Rem}
use Rattle.wsm_interval.specs.declared.interval.Interval.{Interval}
use Rattle.wsm_interval.specs.Interval.{interval, Holds, holds, within_i64, around, least, greatest, add, sub, neg, mul, div, rem, rem_within, computed, hull}
use Rattle.wsm_record.specs.Schema.{is_i64}

within_holds : (lo hi n : ℤ) → lo ≤ℤ n → n ≤ℤ hi → IfSome (within_i64 lo hi) (λ z. Holds z n)
within_holds lo hi n h k =
    elim (is_i64 lo && is_i64 hi) as (λ b. IfSome (cond b (Some (interval lo hi)) None) (λ z. Holds z n)) [ true ↦ (h, k) | false ↦ tt ]

pub add_holds : (x y : Interval) (m n : ℤ) → Holds x m → Holds y n → IfSome (add x y) (λ z. Holds z (m +ℤ n))
add_holds x y m n h k = within_holds (x.lo +ℤ y.lo) (x.hi +ℤ y.hi) (m +ℤ n) (omega (arith, ints)) (omega (arith, ints))

pub sub_holds : (x y : Interval) (m n : ℤ) → Holds x m → Holds y n → IfSome (sub x y) (λ z. Holds z (m -ℤ n))
sub_holds x y m n h k = within_holds (x.lo -ℤ y.hi) (x.hi -ℤ y.lo) (m -ℤ n) (omega (arith, ints)) (omega (arith, ints))

pub neg_holds : (x : Interval) (m : ℤ) → Holds x m → IfSome (neg x) (λ z. Holds z (neg_ℤ m))
neg_holds x m h = within_holds (neg_ℤ x.hi) (neg_ℤ x.lo) (neg_ℤ m) (omega (arith, ints)) (omega (arith, ints))

-- ---- the order, least and greatest

trans : {a b c : ℤ} → a ≤ℤ b → b ≤ℤ c → a ≤ℤ c
trans h k = omega (arith, ints)

min_left : (a b : ℤ) → int_min a b ≤ℤ a
min_left a b = grind (arith, ints)

min_right : (a b : ℤ) → int_min a b ≤ℤ b
min_right a b = grind (arith, ints)

max_left : (a b : ℤ) → a ≤ℤ int_max a b
max_left a b = grind (arith, ints)

max_right : (a b : ℤ) → b ≤ℤ int_max a b
max_right a b = grind (arith, ints)

min_both : (a b c : ℤ) → c ≤ℤ a → c ≤ℤ b → c ≤ℤ int_min a b
min_both a b c h k = grind (arith, ints)

max_both : (a b c : ℤ) → a ≤ℤ c → b ≤ℤ c → int_max a b ≤ℤ c
max_both a b c h k = grind (arith, ints)

-- t lies between u and v, whichever of these is the less
abbrev Between : ℤ → ℤ → ℤ → Type 0
Between u v t = (int_min u v ≤ℤ t) × (t ≤ℤ int_max u v)

rising : (u v t : ℤ) → u ≤ℤ t → t ≤ℤ v → Between u v t
rising u v t h k = (trans (min_left u v) h, trans k (max_right u v))

falling : (u v t : ℤ) → v ≤ℤ t → t ≤ℤ u → Between u v t
falling u v t h k = (trans (min_right u v) h, trans k (max_left u v))

nested : (p q r s u v t : ℤ) → Between p q u → Between r s v → Between u v t → (least p q r s ≤ℤ t) × (t ≤ℤ greatest p q r s)
nested p q r s u v t h k l = (
  trans (min_both u v _ (trans (min_left (int_min p q) (int_min r s)) h.0) (trans (min_right (int_min p q) (int_min r s)) k.0)) l.0,
  trans l.1 (max_both u v _ (trans h.1 (max_left (int_max p q) (int_max r s))) (trans k.1 (max_right (int_max p q) (int_max r s)))),
)

around_holds : (p q r s u v t : ℤ) → Between p q u → Between r s v → Between u v t → IfSome (around p q r s) (λ z. Holds z t)
around_holds p q r s u v t h k l = let n = nested p q r s u v t h k l in within_holds _ _ _ n.0 n.1

-- ---- products

neg_le-pos : (m n : ℕ) → neg_ℤ (pos m) ≤ℤ pos n
neg_le-pos m n = omega (arith, ints)

neg_le-neg : (m n : ℕ) → n ≤ m → neg_ℤ (pos m) ≤ℤ neg_ℤ (pos n)
neg_le-neg m n h = omega (arith, ints)

pos_le-pos : (m n : ℕ) → m ≤ n → pos m ≤ℤ pos n
pos_le-pos m n h = omega (arith, ints)

times_pos : (a b : ℤ) (k : ℕ) → a ≤ℤ b → (a *ℤ pos k) ≤ℤ (b *ℤ pos k)
times_pos (pos a) (pos b) k h = pos_le-pos _ _ (mul-le-mul_right k (omega (arith, ints)))
times_pos (pos a) (negsuc b) k h = absurd h.le
times_pos (negsuc a) (pos b) k h = neg_le-pos _ _
times_pos (negsuc a) (negsuc b) k h = neg_le-neg _ _ (mul-le-mul_right k (omega (arith, ints)))

times_neg : (a b : ℤ) (k : ℕ) → a ≤ℤ b → (b *ℤ negsuc k) ≤ℤ (a *ℤ negsuc k)
times_neg (pos a) (pos b) k h = neg_le-neg _ _ (mul-le-mul_right (suc k) (omega (arith, ints)))
times_neg (pos a) (negsuc b) k h = absurd h.le
times_neg (negsuc a) (pos b) k h = neg_le-pos _ _
times_neg (negsuc a) (negsuc b) k h = pos_le-pos _ _ (mul-le-mul_right (suc k) (omega (arith, ints)))

times_between : (a b m n : ℤ) → a ≤ℤ m → m ≤ℤ b → Between (a *ℤ n) (b *ℤ n) (m *ℤ n)
times_between a b m (pos k) h l = rising _ _ _ (times_pos a m k h) (times_pos m b k l)
times_between a b m (negsuc k) h l = falling _ _ _ (times_neg m b k l) (times_neg a m k h)

between_times : (c d n a : ℤ) → c ≤ℤ n → n ≤ℤ d → Between (a *ℤ c) (a *ℤ d) (a *ℤ n)
between_times c d n a h l = rw (*ℤ_comm a c, *ℤ_comm a d, *ℤ_comm a n) (times_between c d n a h l)

pub mul_holds : (x y : Interval) (m n : ℤ) → Holds x m → Holds y n → IfSome (mul x y) (λ z. Holds z (m *ℤ n))
mul_holds x y m n h k =
    around_holds (x.lo *ℤ y.lo) (x.lo *ℤ y.hi) (x.hi *ℤ y.lo) (x.hi *ℤ y.hi) (x.lo *ℤ n) (x.hi *ℤ n) (m *ℤ n) (between_times y.lo y.hi n x.lo k.0 k.1) (between_times y.lo y.hi n x.hi k.0 k.1) (times_between x.lo x.hi m n h.0 h.1)

-- ---- quotients

div_mono : (a b k : ℕ) → 0 < k → a ≤ b → a / k ≤ b / k
div_mono a b k p h = le-div (a / k) b k p (omega (arith, div-mul-le_self a k))

div_anti : (a k l : ℕ) → 0 < k → k ≤ l → a / l ≤ a / k
div_anti a k l p h = le-div (a / l) a k p (omega (arith, div-mul-le_self a l, mul-le-mul_left (a / l) h))

over_pos : (a b : ℤ) (k : ℕ) → 0 < k → a ≤ℤ b → int_div a (pos k) ≤ℤ int_div b (pos k)
over_pos (pos a) (pos b) k p h = pos_le-pos _ _ (div_mono a b k p (omega (arith, ints)))
over_pos (pos a) (negsuc b) k p h = absurd h.le
over_pos (negsuc a) (pos b) k p h = neg_le-pos _ _
over_pos (negsuc a) (negsuc b) k p h = neg_le-neg _ _ (div_mono (suc b) (suc a) k p (omega (arith, ints)))

over_neg : (a b : ℤ) (k : ℕ) → a ≤ℤ b → int_div b (negsuc k) ≤ℤ int_div a (negsuc k)
over_neg (pos a) (pos b) k h = neg_le-neg _ _ (div_mono a b (suc k) (omega arith) (omega (arith, ints)))
over_neg (pos a) (negsuc b) k h = absurd h.le
over_neg (negsuc a) (pos b) k h = neg_le-pos _ _
over_neg (negsuc a) (negsuc b) k h = pos_le-pos _ _ (div_mono (suc b) (suc a) (suc k) (omega arith) (omega (arith, ints)))

-- n isn't 0
abbrev Nonzero : ℤ → Type 0
Nonzero (pos k) = 0 < k
Nonzero (negsuc k) = Unit {0}

quotient_between : (a b m n : ℤ) → Nonzero n → a ≤ℤ m → m ≤ℤ b → Between (int_div a n) (int_div b n) (int_div m n)
quotient_between a b m (pos k) p h l = rising _ _ _ (over_pos a m k p h) (over_pos m b k p l)
quotient_between a b m (negsuc k) p h l = falling _ _ _ (over_neg m b k l) (over_neg a m k h)

-- c to d lies on one side of 0
abbrev OneSide : ℤ → ℤ → Type 0
OneSide (pos c) d = 0 < c
OneSide (negsuc c) (pos d) = ⊥
OneSide (negsuc c) (negsuc d) = Unit {0}

between_quotients : (c d n a : ℤ) → OneSide c d → c ≤ℤ n → n ≤ℤ d → Between (int_div a c) (int_div a d) (int_div a n)
between_quotients (pos c) (pos d) (pos n) (pos a) p h l = falling _ _ _ (pos_le-pos _ _ (div_anti a n d (omega (arith, ints)) (omega (arith, ints)))) (pos_le-pos _ _ (div_anti a c n p (omega (arith, ints))))
between_quotients (pos c) (pos d) (pos n) (negsuc a) p h l = rising _ _ _ (neg_le-neg _ _ (div_anti (suc a) c n p (omega (arith, ints)))) (neg_le-neg _ _ (div_anti (suc a) n d (omega (arith, ints)) (omega (arith, ints))))
between_quotients (pos c) (negsuc d) (pos n) a p h l = absurd l.le
between_quotients (pos c) d (negsuc n) a p h l = absurd h.le
between_quotients (negsuc c) (pos d) n a p h l = absurd p
between_quotients (negsuc c) (negsuc d) (pos n) a p h l = absurd l.le
between_quotients (negsuc c) (negsuc d) (negsuc n) (pos a) p h l = falling _ _ _ (neg_le-neg _ _ (div_anti a (suc d) (suc n) (omega arith) (omega (arith, ints)))) (neg_le-neg _ _ (div_anti a (suc n) (suc c) (omega arith) (omega (arith, ints))))
between_quotients (negsuc c) (negsuc d) (negsuc n) (negsuc a) p h l = rising _ _ _ (pos_le-pos _ _ (div_anti (suc a) (suc n) (suc c) (omega arith) (omega (arith, ints)))) (pos_le-pos _ _ (div_anti (suc a) (suc d) (suc n) (omega arith) (omega (arith, ints))))

one_side : (c d : ℤ) → (int_le c (pos 0) && int_le (pos 0) d) ≡ false → c ≤ℤ d → OneSide c d
one_side (pos zero) (pos d) e h = grind (arith, ints)
one_side (pos zero) (negsuc d) e h = absurd h.le
one_side (pos (suc c)) d e h = omega arith
one_side (negsuc c) (pos d) e h = grind (arith, ints)
one_side (negsuc c) (negsuc d) e h = tt

nonzero : (c d n : ℤ) → OneSide c d → c ≤ℤ n → n ≤ℤ d → Nonzero n
nonzero (pos c) d (pos n) p h l = omega (arith, ints)
nonzero (pos c) d (negsuc n) p h l = tt
nonzero (negsuc c) (pos d) n p h l = absurd p
nonzero (negsuc c) (negsuc d) (pos n) p h l = absurd l.le
nonzero (negsuc c) (negsuc d) (negsuc n) p h l = tt

quotient_holds : (x y : Interval) (m n : ℤ) → Holds x m → Holds y n → OneSide y.lo y.hi → IfSome (around (int_div x.lo y.lo) (int_div x.lo y.hi) (int_div x.hi y.lo) (int_div x.hi y.hi)) (λ z. Holds z (int_div m n))
quotient_holds x y m n h k o =
    around_holds (int_div x.lo y.lo) (int_div x.lo y.hi) (int_div x.hi y.lo) (int_div x.hi y.hi) (int_div x.lo n) (int_div x.hi n) (int_div m n) (between_quotients y.lo y.hi n x.lo o k.0 k.1) (between_quotients y.lo y.hi n x.hi o k.0 k.1) (quotient_between x.lo x.hi m n (nonzero y.lo y.hi n o k.0 k.1) h.0 h.1)

pub div_holds : (x y : Interval) (m n : ℤ) → Holds x m → Holds y n → IfSome (div x y) (λ z. Holds z (int_div m n))
div_holds x y m n h k =
    elim (holds y (pos 0)) as (λ b. holds y (pos 0) ≡ b → IfSome (cond b None (around (int_div x.lo y.lo) (int_div x.lo y.hi) (int_div x.hi y.lo) (int_div x.hi y.hi))) (λ z. Holds z (int_div m n))) [
      | true ↦ λ e. tt
      | false ↦ λ e. quotient_holds x y m n h k (one_side y.lo y.hi e (trans k.0 k.1))
    ] refl

-- ---- remainders

-- the greater size of the two ends, less 1
abbrev most : Interval → ℤ
most y = int_max (pos (unsigned_abs y.lo)) (pos (unsigned_abs y.hi)) -ℤ pos 1

rem_small : (c d n : ℤ) (r : ℕ) → OneSide c d → c ≤ℤ n → n ≤ℤ d → r < unsigned_abs n → pos r ≤ℤ (int_max (pos (unsigned_abs c)) (pos (unsigned_abs d)) -ℤ pos 1)
rem_small (pos c) (pos d) (pos n) r p h l q = grind (arith, ints)
rem_small (pos c) (negsuc d) (pos n) r p h l q = absurd l.le
rem_small (pos c) d (negsuc n) r p h l q = absurd h.le
rem_small (negsuc c) (pos d) n r p h l q = absurd p
rem_small (negsuc c) (negsuc d) (pos n) r p h l q = absurd l.le
rem_small (negsuc c) (negsuc d) (negsuc n) r p h l q = grind (arith, ints)

mod_below : (a : ℕ) (n : ℤ) → Nonzero n → a % unsigned_abs n < unsigned_abs n
mod_below a (pos n) p = omega arith
mod_below a (negsuc n) p = omega arith

rem_from : (a b m r w : ℤ) → a ≤ℤ m → m ≤ℤ b → pos 0 ≤ℤ w → pos 0 ≤ℤ r → r ≤ℤ m → r ≤ℤ w → IfSome (rem_within w (interval a b)) (λ z. Holds z r)
rem_from a b m r w h l p q s t = within_holds (int_max (neg_ℤ w) (int_min a (pos 0))) (int_min w (int_max b (pos 0))) r (grind (arith, ints)) (grind (arith, ints))

rem_below : (a b m r w : ℤ) → a ≤ℤ m → m ≤ℤ b → pos 0 ≤ℤ w → r ≤ℤ pos 0 → m ≤ℤ r → neg_ℤ w ≤ℤ r → IfSome (rem_within w (interval a b)) (λ z. Holds z r)
rem_below a b m r w h l p q s t = within_holds (int_max (neg_ℤ w) (int_min a (pos 0))) (int_min w (int_max b (pos 0))) r (grind (arith, ints)) (grind (arith, ints))

mod_le : (a k : ℕ) → a % k ≤ a
mod_le a k = omega arith

neg_within : (r : ℕ) (w : ℤ) → pos r ≤ℤ w → neg_ℤ w ≤ℤ neg_ℤ (pos r)
neg_within r w h = omega (arith, ints)

not_negative : (r : ℕ) (w : ℤ) → pos r ≤ℤ w → pos 0 ≤ℤ w
not_negative r w h = omega (arith, ints)

remainder_holds : (x y : Interval) (m n : ℤ) → Holds x m → Holds y n → OneSide y.lo y.hi → IfSome (rem_within (most y) x) (λ z. Holds z (int_rem m n))
remainder_holds x y (pos m) n h k o =
    let small = rem_small y.lo y.hi n (m % unsigned_abs n) o k.0 k.1 (mod_below m n (nonzero y.lo y.hi n o k.0 k.1)) in
    rem_from x.lo x.hi (pos m) (pos (m % unsigned_abs n)) (most y) h.0 h.1 (not_negative (m % unsigned_abs n) (most y) small) (pos_le-pos 0 _ (omega arith)) (pos_le-pos _ _ (mod_le m (unsigned_abs n))) small
remainder_holds x y (negsuc m) n h k o =
    let small = rem_small y.lo y.hi n (suc m % unsigned_abs n) o k.0 k.1 (mod_below (suc m) n (nonzero y.lo y.hi n o k.0 k.1)) in
    rem_below x.lo x.hi (negsuc m) (neg_ℤ (pos (suc m % unsigned_abs n))) (most y) h.0 h.1 (not_negative (suc m % unsigned_abs n) (most y) small) (neg_le-pos _ 0) (neg_le-neg _ _ (mod_le (suc m) (unsigned_abs n))) (neg_within (suc m % unsigned_abs n) (most y) small)

pub rem_holds : (x y : Interval) (m n : ℤ) → Holds x m → Holds y n → IfSome (rem x y) (λ z. Holds z (int_rem m n))
rem_holds x y m n h k =
    elim (holds y (pos 0)) as (λ b. holds y (pos 0) ≡ b → IfSome (cond b None (rem_within (most y) x)) (λ z. Holds z (int_rem m n))) [
      | true ↦ λ e. tt
      | false ↦ λ e. remainder_holds x y m n h k (one_side y.lo y.hi e (trans k.0 k.1))
    ] refl

-- ---- each of them

pub computed_holds : (a : Arithmetic) (x y : Interval) (m n : ℤ) → Holds x m → Holds y n → IfSome (computed a x y) (λ z. Holds z (result_of a m n))
computed_holds Add x y m n h k = add_holds x y m n h k
computed_holds Sub x y m n h k = sub_holds x y m n h k
computed_holds Mul x y m n h k = mul_holds x y m n h k
computed_holds Div x y m n h k = div_holds x y m n h k
computed_holds Rem x y m n h k = rem_holds x y m n h k

-- ---- hulls

pub hull_holds_left : (x y : Interval) (n : ℤ) → Holds x n → Holds (hull x y) n
hull_holds_left x y n h = (trans (min_left x.lo y.lo) h.0, trans h.1 (max_left x.hi y.hi))

pub hull_holds_right : (x y : Interval) (n : ℤ) → Holds y n → Holds (hull x y) n
hull_holds_right x y n h = (trans (min_right x.lo y.lo) h.0, trans h.1 (max_right x.hi y.hi))
