-- Windows of a ring that start near one another never share a row of slots, so the slot of such a place
-- is free or its own.
use Rattle.std.proofs.Common.{◌≡◌, ◌≢◌, ℕ, zero, suc, ◌+◌, ◌*◌, ◌/◌, ◌%◌, ◌<◌, ◌≤◌, Option, Some, None, min, ℤ, pos, negsuc, ◌+ℤ◌, ◌-ℤ◌, ◌*ℤ◌, ◌<ℤ◌, ◌≤ℤ◌, refl, sym, ap, ◌∙◌, inl, inr, arith}
use Rattle.std.specs.Prelude.{unsigned_abs}
use Rattle.std.specs.Option.{is_some}
use Rattle.std.specs.Int.{div_ceil, int_rem_euclid, int_div_euclid}
use Rattle.std.specs.FinMap as map
use Rattle.std.proofs.lemmas.Int.{ints, by_lt_z}
use Rattle.std.proofs.lemmas.Option.{none-some}
use Rattle.std.proofs.lemmas.Nat.{mul-le, same_from_place}
use Rattle.std.proofs.Math.Nat.{div-add-mod'}
use Rattle.wsm_windows.specs.Life.{IsHeld}
use Rattle.wsm_ring.specs.declared.ring.Ring.{Ring}
use Rattle.wsm_ring.specs.Ring.{IsRing, IsNear, IsOfRing, RingAdmits, window_number, slot_of}
use Rattle.wsm_ring.proofs.RingWalk.{same_start_key}
use Rattle.wsm_ring.proofs.Rings.{quot_rem, next_on_grid}
use Rattle.wsm_windows.proofs.Multiples.{rem_below, times_more}
use Rattle.wsm_windows.specs.declared.place.Place.{Place}
use Rattle.wsm_windows.specs.Places.{window_of, place_cmp}

-- two numbers that leave one remainder and are less than the divisor apart are one
rem_apart : (b : ℕ) (m n : ℤ) → 0 < b → int_rem_euclid m (pos b) ≡ int_rem_euclid n (pos b) → m ≤ℤ n → n <ℤ (m +ℤ pos b) → m ≡ n
rem_apart b m n h same le near =
    let x = int_div_euclid m (pos b) *ℤ pos b in
    let y = int_div_euclid n (pos b) *ℤ pos b in
    let first : m ≡ x +ℤ int_rem_euclid m (pos b) = quot_rem m b h in
    let second : n ≡ y +ℤ int_rem_euclid n (pos b) = quot_rem n b h in
    by_lt_z {P = m ≡ n} x y
    (λ less. let far : (x +ℤ pos b) ≤ℤ y = next_on_grid (pos b) (int_div_euclid m (pos b)) (int_div_euclid n (pos b)) x y (omega (arith, ints)) refl refl less in
    absurd (omega (arith, ints, first, second, same, far, near)))
    (λ more. omega (arith, ints, first, second, same, more, le))

ceil_step : (q r p a : ℕ) → r < p → a ≡ q * p + r → a ≤ (q + min 1 r) * p
ceil_step q zero p a h is = let whole : q + min 1 zero ≡ q = omega arith in rw whole (omega arith)
ceil_step q (suc r) p a h is =
    let more : q + min 1 (suc r) ≡ q + 1 = omega arith in
    let one_more : (q + 1) * p ≡ q * p + p = omega arith in
    rw (more, one_more) (omega arith)

-- so many periods cover a span
ceil_covers : (a p : ℕ) → 0 < p → a ≤ div_ceil a p * p
ceil_covers a p h = ceil_step (a / p) (a % p) p a (omega arith) (sym (div-add-mod' a p))

-- a number past another by so much
past_by : (m n : ℤ) → m ≤ℤ n → (k : ℕ) × (n ≡ m +ℤ pos k)
past_by m n h = (unsigned_abs (n -ℤ m), omega (arith, ints))

-- starts less than so many periods apart have numbers less than that apart
near_numbers : (p b : ℕ) (m n v w : ℤ) → v ≡ m *ℤ pos p → w ≡ n *ℤ pos p → w <ℤ (v +ℤ pos (b * p)) → n <ℤ (m +ℤ pos b)
near_numbers p b m n v w e f near = by_lt_z {P = n <ℤ (m +ℤ pos b)} n (m +ℤ pos b) (λ less. less) (λ far.
    let k = past_by m n (omega (arith, ints, far)) in
    let wide : b ≤ k.0 = omega (arith, ints, far, k.1) in
    let most : b * p ≤ k.0 * p = mul-le b p k.0 p wide (omega arith) in
    let is : w ≡ v +ℤ pos (k.0 * p) = f ∙ ap (λ (z : ℤ). z *ℤ pos p) k.1 ∙ times_more m k.0 p ∙ ap (λ (z : ℤ). z +ℤ pos (k.0 * p)) (sym e) in
    absurd (omega (arith, ints, near, is, most)))

pub rising_numbers : (p : ℕ) (m n v w : ℤ) → 0 < p → v ≡ m *ℤ pos p → w ≡ n *ℤ pos p → v ≤ℤ w → m ≤ℤ n
rising_numbers p m n v w h e f le = by_lt_z {P = m ≤ℤ n} n m (λ less.
    let k = past_by n m (omega (arith, ints, less)) in
    let some : 1 ≤ k.0 = omega (arith, ints, less, k.1) in
    let most : 1 * p ≤ k.0 * p = mul-le 1 p k.0 p some (omega arith) in
    let is : v ≡ w +ℤ pos (k.0 * p) = e ∙ ap (λ (z : ℤ). z *ℤ pos p) k.1 ∙ times_more n k.0 p ∙ ap (λ (z : ℤ). z +ℤ pos (k.0 * p)) (sym f) in
    absurd (omega (arith, ints, le, is, most))) (λ more. more)

one_start : (p b : ℕ) (m n v w : ℤ) → 0 < p → 0 < b → v ≡ m *ℤ pos p → w ≡ n *ℤ pos p → int_rem_euclid m (pos b) ≡ int_rem_euclid n (pos b) → v ≤ℤ w → w <ℤ (v +ℤ pos (b * p)) → v ≡ w
one_start p b m n v w h k e f same le near =
    let number : m ≡ n = rem_apart b m n k same (rising_numbers p m n v w h e f le) (near_numbers p b m n v w e f near) in
    e ∙ ap (λ (z : ℤ). z *ℤ pos p) number ∙ sym f

one_start_z : (period : ℤ) (b : ℕ) (m n v w : ℤ) → pos 1 ≤ℤ period → 0 < b → v ≡ m *ℤ period → w ≡ n *ℤ period → int_rem_euclid m (pos b) ≡ int_rem_euclid n (pos b) → v ≤ℤ w → w <ℤ (v +ℤ pos (b * unsigned_abs period)) → v ≡ w
one_start_z (pos p) b m n v w h k e f same le near = one_start p b m n v w (omega (arith, ints)) k e f same le near
one_start_z (negsuc p) b m n v w h k e f same le near = absurd (omega (arith, ints))

-- places of one slot have one key, and numbers that leave one remainder
one_slot : (r : Ring) (v w : Place) → IsRing r → IsOfRing r v → IsOfRing r w → slot_of r v ≡ slot_of r w → (int_rem_euclid (window_number r v.start) (pos r.bound) ≡ int_rem_euclid (window_number r w.start) (pos r.bound)) × (v.key ≡ w.key)
one_slot r v w is a b same =
    let m = rem_below (window_number r v.start) r.bound (omega (arith, is.bound)) in
    let n = rem_below (window_number r w.start) r.bound (omega (arith, is.bound)) in
    let place : m.0 * r.keys + v.key ≡ n.0 * r.keys + w.key = rw (m.1, n.1) at same in
    let parts = same_from_place m.0 v.key n.0 w.key r.keys a.key b.key place in
    (m.1 ∙ ap pos parts.0 ∙ sym n.1, parts.1)

-- places near one time never share a slot
pub near_own : (r : Ring) (low : ℤ) → IsRing r → (v w : Place) → IsNear r low v → IsNear r low w → slot_of r v ≡ slot_of r w → v ≡ w
near_own r low is v w a b same =
    let one = one_slot r v w is a.of b.of same in
    let more : 0 < r.bound = omega (arith, is.bound) in
    let start : v.start ≡ w.start = by_lt_z {P = v.start ≡ w.start} w.start v.start
    (λ less. sym (one_start_z r.period r.bound (window_number r w.start) (window_number r v.start) w.start v.start is.period_low more b.of.start a.of.start (sym one.0) (omega (arith, ints, less)) (omega (arith, ints, b.from, a.until))))
    (λ le. one_start_z r.period r.bound (window_number r v.start) (window_number r w.start) v.start w.start is.period_low more a.of.start b.of.start one.0 le (omega (arith, ints, a.from, b.until))) in
    same_start_key r v w a.of b.of start one.1

admits_by : {P : Type 0} (r : Ring) (ps : map.FinMap place_cmp P) (p : Place) (o : Option P) → map.get ps p ≡ o → IsOfRing r p → ((q : Place) → slot_of r q ≡ slot_of r p → map.get ps q ≢ None → q ≡ p) → RingAdmits r ps p
admits_by r ps p (Some v) at of own = (of, inl (ap is_some at))
admits_by r ps p None at of own = (of, inr (λ q same. none_by ps p q at (own q same) (map.get ps q) refl)) where
  none_by : {P : Type 0} (ps : map.FinMap place_cmp P) (p q : Place) → map.get ps p ≡ None → (map.get ps q ≢ None → q ≡ p) → (x : Option P) → map.get ps q ≡ x → map.get ps q ≡ None
  none_by ps p q at own None is = is
  none_by ps p q at own (Some w) is = ap (map.get ps) (own (λ none. none-some w (sym none ∙ is))) ∙ at

-- beside places near a time another such place is admitted
pub near_admits : {P : Type 0} (r : Ring) (low : ℤ) → IsRing r → (ps : map.FinMap place_cmp P) → ((q : Place) → map.get ps q ≢ None → IsNear r low q) → (p : Place) → IsNear r low p → RingAdmits r ps p
near_admits r low is ps near p at = admits_by r ps p (map.get ps p) refl at.of (λ q same some. near_own r low is q p (near q some) at same)

-- where as many windows have rows as periods cover skew, lateness and size, those that are held lie near
-- the first time at which one can start
pub held_near : (r : Ring) (skew late mark : ℤ) → pos 1 ≤ℤ r.period → r.bound ≡ div_ceil (unsigned_abs ((skew +ℤ late) +ℤ r.size)) (unsigned_abs r.period) → (p : Place) → IsOfRing r p → IsHeld skew late mark (window_of p) → IsNear r (((mark -ℤ late) -ℤ r.size) +ℤ pos 1) p
held_near r skew late mark positive enough p of held =
    let most : unsigned_abs ((skew +ℤ late) +ℤ r.size) ≤ r.bound * unsigned_abs r.period = rw enough (ceil_covers (unsigned_abs ((skew +ℤ late) +ℤ r.size)) (unsigned_abs r.period) (omega (arith, ints))) in
    record { of = of; from = omega (arith, ints, of.end, held.live); until = omega (arith, ints, most, held.near) }

-- and at least one window has a row
pub some_live : (span p b : ℕ) → 0 < p → 1 ≤ span → b ≡ div_ceil span p → 1 ≤ b
some_live span p zero h some is = let most : span ≤ zero * p = rw is (ceil_covers span p h) in absurd (omega (arith, most, some))
some_live span p (suc b) h some is = omega arith
