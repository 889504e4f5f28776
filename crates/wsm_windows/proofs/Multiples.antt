-- Multiples of a period below and above a time.
use Rattle.std.proofs.Common.{◌≡◌, ℕ, zero, suc, ◌+◌, ◌-◌, ◌*◌, ◌/◌, ◌%◌, ◌<◌, ℤ, pos, negsuc, ◌+ℤ◌, ◌-ℤ◌, ◌*ℤ◌, refl, ap, ◌∙◌, ◌⊎◌, inl, inr, arith}
use Rattle.std.proofs.lemmas.Int.{ints, int_rem_euclid_is}
use Rattle.std.proofs.Math.Nat.{div-add-mod', mul-add-mod_self_right}
use Rattle.std.proofs.Math.IntN.{suc_ℤ-*ℤ, +ℤ-suc_ℤ, +ℤ_idr, negsuc-*ℤ-pos}
use Rattle.std.specs.Int.{int_rem_euclid}
use Rattle.wsm_windows.specs.Windows.{last_start}

pub rem_below : (t : ℤ) (p : ℕ) → 0 < p → (r : ℕ) × (int_rem_euclid t (pos p) ≡ pos r) × (r < p)
rem_below (pos a) p h = (a % p, refl, omega arith)
rem_below (negsuc a) p h = (p - 1 - a % p, refl, omega arith)

-- what is left of a time after its window's first start is left of the time
rem_pos : (a p e : ℕ) → 0 < p → int_rem_euclid (((pos a -ℤ pos (a % p)) +ℤ pos p) +ℤ pos e) (pos p) ≡ pos (e % p)
rem_pos a p e h =
    let whole : a / p * p + a % p ≡ a = div-add-mod' a p in
    let more : (a / p + 1) * p ≡ a / p * p + p = omega arith in
    int_rem_euclid_is (((pos a -ℤ pos (a % p)) +ℤ pos p) +ℤ pos e) (pos p) p 0 ((a / p + 1) * p + e) h refl (rw more (omega (arith, ints)))
    ∙ ap pos (mul-add-mod_self_right (a / p + 1) p e)

rem_neg : (a p e : ℕ) → 0 < p → int_rem_euclid (((negsuc a -ℤ pos (p - 1 - a % p)) +ℤ pos p) +ℤ pos e) (pos p) ≡ pos (e % p)
rem_neg a p e h =
    let whole : a / p * p + a % p ≡ a = div-add-mod' a p in
    let below : a % p < p = omega arith in
    int_rem_euclid_is (((negsuc a -ℤ pos (p - 1 - a % p)) +ℤ pos p) +ℤ pos e) (pos p) p (a / p) e h refl (omega (arith, ints))

pub rem_after : (u : ℤ) (p e : ℕ) → 0 < p → int_rem_euclid ((last_start (pos p) u +ℤ pos p) +ℤ pos e) (pos p) ≡ pos (e % p)
rem_after (pos a) p e h = rem_pos a p e h
rem_after (negsuc a) p e h = rem_neg a p e h

pub times_more : (q : ℤ) (m p : ℕ) → (q +ℤ pos m) *ℤ pos p ≡ q *ℤ pos p +ℤ pos (m * p)
times_more q zero p = rw (+ℤ_idr q) (omega (arith, ints))
times_more q (suc m) p =
    let one_more : suc m * p ≡ m * p + p = omega arith in
    rw (+ℤ-suc_ℤ q (pos m), suc_ℤ-*ℤ (q +ℤ pos m) (pos p), times_more q m p, one_more) (omega (arith, ints))

below_zero : (a p : ℕ) → 0 < p → negsuc a -ℤ pos (p - 1 - a % p) ≡ negsuc (a / p) *ℤ pos p
below_zero a p h =
    let whole : a / p * p + a % p ≡ a = div-add-mod' a p in
    let below : a % p < p = omega arith in
    let more : suc (a / p) * p ≡ a / p * p + p = omega arith in
    rw (negsuc-*ℤ-pos (a / p) p, more) (omega (arith, ints))

-- the last start is a multiple of the period
pub last_is_multiple : (t : ℤ) (p : ℕ) → 0 < p → (q : ℤ) × (last_start (pos p) t ≡ q *ℤ pos p)
last_is_multiple (pos a) p h = (pos (a / p), let whole : a / p * p + a % p ≡ a = div-add-mod' a p in omega (arith, ints))
last_is_multiple (negsuc a) p h = (negsuc (a / p), below_zero a p h)

pub above_by : (k l d : ℤ) → l ≡ k +ℤ d → ((j : ℕ) × (l ≡ k +ℤ pos j)) ⊎ ((j : ℕ) × (k ≡ l +ℤ pos j))
above_by k l (pos j) e = inl (j, e)
above_by k l (negsuc j) e = inr (suc j, omega (arith, ints))

-- of two numbers one is so much above the other
pub either_above : (k l : ℤ) → ((j : ℕ) × (l ≡ k +ℤ pos j)) ⊎ ((j : ℕ) × (k ≡ l +ℤ pos j))
either_above k l = above_by k l (l -ℤ k) (omega (arith, ints))
