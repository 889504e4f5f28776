-- What is computed in 128 bits is what whole numbers give.
use Rattle.std.proofs.Common.{rules, ◌≡◌, ℕ, zero, suc, ◌/◌, ◌^◌, ◌≤◌, lit<, ℤ, pos, negsuc, neg_ℤ, ◌+ℤ◌, ◌-ℤ◌, ◌*ℤ◌, ◌≤ℤ◌, SFits, to_z, of_z, w64, Option, refl, ◌∙◌, arith}
use Rattle.std.specs.Int.{w128}
use Rattle.std.proofs.lemmas.Int.{ints, clamps, to_z-of_z, fits_signed_mul, fits_signed_from_abs}
use Rattle.std.proofs.Math.Nat.{div-le_self}
use Rattle.std.specs.Prelude.{Bool, true, false, cond, None, int_div, unsigned_abs, FitsSigned, IfSome}
use Rattle.std.specs.Int.{int_min, int_max}
use Rattle.wsm_interval.specs.declared.interval.Interval.{Interval}
use Rattle.wsm_interval.specs.Interval.{Holds, within_i64, around}
use Rattle.wsm_interval.specs.Narrowing.{part, above, below}

pub wider : (z : ℤ) → SFits w64 z → SFits w128 z
wider z h = search rules

size_of : (z : ℤ) → SFits w64 z → unsigned_abs z ≤ 2 ^ 63
size_of z h = omega (arith, ints)

-- an end of an interval
pub end_is : (z x : ℤ) → SFits w64 x → z ≡ x → to_z w128 (of_z w128 z) ≡ x
end_is z x h e = rw e (to_z-of_z w128 x (wider x h))

pub wide_is : (z x : ℤ) → SFits w128 z → z ≡ x → to_z w128 (of_z w128 z) ≡ x
wide_is z x h e = to_z-of_z w128 z h ∙ e

pub min_is : (r a b x y : ℤ) → r ≡ int_min a b → a ≡ x → b ≡ y → r ≡ int_min x y
min_is r a b x y e f g = rw (← f, ← g) e

pub max_is : (r a b x y : ℤ) → r ≡ int_max a b → a ≡ x → b ≡ y → r ≡ int_max x y
max_is r a b x y e f g = rw (← f, ← g) e

pub abs_is : (r a x : ℤ) → r ≡ pos (unsigned_abs a) → a ≡ x → r ≡ pos (unsigned_abs x)
abs_is r a x e f = rw (← f) e

pub within_is : (r : Option Interval) (a b x y : ℤ) → r ≡ within_i64 a b → a ≡ x → b ≡ y → r ≡ within_i64 x y
within_is r a b x y e f g = rw (← f, ← g) e

pub around_is : (r : Option Interval) (a b c d x y z w : ℤ) → r ≡ around a b c d → a ≡ x → b ≡ y → c ≡ z → d ≡ w → r ≡ around x y z w
around_is r a b c d x y z w e f g h i = rw (← f, ← g, ← h, ← i) e

pub some_of : (r s : Option Interval) (n : ℤ) → r ≡ s → IfSome s (λ z. Holds z n) → IfSome r (λ z. Holds z n)
some_of r s n e h = rw e h

pub product_fits : (x y : ℤ) → SFits w64 x → SFits w64 y → FitsSigned w128 (x *ℤ y)
product_fits x y g h = fits_signed_mul w128 x y (2 ^ 63) (2 ^ 63) (size_of x g) (size_of y h) (lit< tt)

pub product_is : (a c x y : ℤ) → a ≡ x → c ≡ y → SFits w64 x → SFits w64 y → to_z w128 (of_z w128 (to_z w128 (of_z w128 a) *ℤ to_z w128 (of_z w128 c))) ≡ x *ℤ y
product_is a c x y e f g h = rw (e, f, to_z-of_z w128 x (wider x g), to_z-of_z w128 y (wider y h)) (to_z-of_z w128 (x *ℤ y) (product_fits x y g h))

abs_neg : (n : ℕ) → unsigned_abs (neg_ℤ (pos n)) ≡ n
abs_neg zero = refl
abs_neg (suc n) = refl

abs_quotient : (a d : ℤ) → unsigned_abs (int_div a d) ≤ unsigned_abs a
abs_quotient (pos a) (pos d) = div-le_self a d
abs_quotient (pos a) (negsuc d) = rw (abs_neg (a / suc d)) (div-le_self a (suc d))
abs_quotient (negsuc a) (pos d) = rw (abs_neg (suc a / d)) (div-le_self (suc a) d)
abs_quotient (negsuc a) (negsuc d) = div-le_self (suc a) (suc d)

quotient_fits : (x y : ℤ) → SFits w64 x → FitsSigned w128 (int_div x y)
quotient_fits x y h = fits_signed_from_abs w128 (int_div x y) (omega (arith, abs_quotient x y, size_of x h))

pub most_fits : (m lo hi : ℤ) → SFits w64 lo → SFits w64 hi → m ≡ int_max (pos (unsigned_abs lo)) (pos (unsigned_abs hi)) → unsigned_abs m ≤ 2 ^ 63
most_fits m lo hi g h e = omega (arith, ints, clamps, size_of lo g, size_of hi h)

pub unless : (b : Bool) (r s : Option Interval) → b ≡ false → r ≡ s → r ≡ cond b None s
unless true r s e h = cc
unless false r s e h = h

pub less_one : (m x : ℤ) → unsigned_abs m ≤ 2 ^ 63 → m ≡ x → to_z w128 (of_z w128 (to_z w128 (of_z w128 m) -ℤ pos 1)) ≡ x -ℤ pos 1
less_one m x h e = omega (arith, ints)

pub less_one_negated : (m x : ℤ) → unsigned_abs m ≤ 2 ^ 63 → m ≡ x → to_z w128 (of_z w128 (pos 0 -ℤ to_z w128 (of_z w128 (to_z w128 (of_z w128 m) -ℤ pos 1)))) ≡ neg_ℤ (x -ℤ pos 1)
less_one_negated m x h e = omega (arith, ints)

pub sum_is : (a c x y : ℤ) → a ≡ x → c ≡ y → SFits w64 x → SFits w64 y → to_z w128 (of_z w128 (to_z w128 (of_z w128 a) +ℤ to_z w128 (of_z w128 c))) ≡ x +ℤ y
sum_is a c x y e f g h = rw (e, f) (omega (arith, ints))

pub difference_is : (a c x y : ℤ) → a ≡ x → c ≡ y → SFits w64 x → SFits w64 y → to_z w128 (of_z w128 (to_z w128 (of_z w128 a) -ℤ to_z w128 (of_z w128 c))) ≡ x -ℤ y
difference_is a c x y e f g h = rw (e, f) (omega (arith, ints))

pub negation_is : (a x : ℤ) → a ≡ x → SFits w64 x → to_z w128 (of_z w128 (pos 0 -ℤ to_z w128 (of_z w128 a))) ≡ neg_ℤ x
negation_is a x e g = rw e (omega (arith, ints))

pub quotient_seen : (r a c x y : ℤ) → r ≡ int_div (to_z w128 (of_z w128 a)) (to_z w128 (of_z w128 c)) → a ≡ x → c ≡ y → SFits w64 x → SFits w64 y → to_z w128 (of_z w128 r) ≡ int_div x y
quotient_seen r a c x y e f g h k =
    let same : r ≡ int_div x y = e ∙ rw (end_is a x h f, end_is c y k g) refl in
    rw same (to_z-of_z w128 (int_div x y) (quotient_fits x y h))

-- ---- narrowing

pub part_is : (r x : Interval) (a b lo hi : ℤ) → r ≡ part x a b → a ≡ lo → b ≡ hi → r ≡ part x lo hi
part_is r x a b lo hi e f g = rw (← f, ← g) e

pub above_is : (r a d lo c : ℤ) → r ≡ above a d → a ≡ lo → d ≡ c → r ≡ above lo c
above_is r a d lo c e f g = rw (← f, ← g) e

pub below_is : (r a d hi c : ℤ) → r ≡ below a d → a ≡ hi → d ≡ c → r ≡ below hi c
below_is r a d hi c e f g = rw (← f, ← g) e

pub one_less : (a c : ℤ) → unsigned_abs c ≤ 2 ^ 63 → a ≡ c → to_z w128 (of_z w128 (a -ℤ pos 1)) ≡ c -ℤ pos 1
one_less a c h e = omega (arith, ints)

pub one_more : (a c : ℤ) → unsigned_abs c ≤ 2 ^ 63 → a ≡ c → to_z w128 (of_z w128 (a +ℤ pos 1)) ≡ c +ℤ pos 1
one_more a c h e = omega (arith, ints)

-- an end between those of an interval is a number of 64 bits
pub end_of_part : (x r lo hi : ℤ) → SFits w64 lo → SFits w64 hi → lo ≤ℤ r → r ≤ℤ hi → r ≡ x → to_z w64 (of_z w64 (to_z w128 (of_z w128 r))) ≡ x
end_of_part x r lo hi f g h k e = omega (arith, ints)
