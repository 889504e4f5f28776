-- Of the windows of a grid the last that begins by a time, and the first that ends after one.
use Rattle.std.proofs.Common.{◌≡◌, ℕ, true, false, zero, suc, ◌+◌, ◌*◌, ◌<◌, ℤ, pos, negsuc, ◌+ℤ◌, ◌-ℤ◌, ◌*ℤ◌, ◌≤ℤ◌, ◌<ℤ◌, inl, inr, refl, sym, ap, ◌∙◌, arith}
use Rattle.std.proofs.lemmas.Int.{ints}
use Rattle.std.specs.Prelude.{int_lt}
use Rattle.wsm_windows.specs.Windows.{last_start, first_start}
use Rattle.wsm_windows.proofs.Multiples.{rem_below, times_more, last_is_multiple, either_above}
use Rattle.wsm_semantics.proofs.Decided.{less_than, no_less}

lower : (a b c : ℤ) (n : ℕ) → b ≡ a +ℤ pos n → c ≡ b → a ≤ℤ c
lower a b c n more is = omega (arith, ints)

no_higher : (x y last : ℤ) (j p : ℕ) → y ≡ x +ℤ pos (suc j * p) → last ≡ x → y <ℤ (last +ℤ pos p) → ⊥
no_higher x y last j p more is below =
    let one_more : suc j * p ≡ j * p + p = omega arith in
    omega (arith, ints)

at_it : (a b c : ℤ) → a ≡ b → c ≡ b → a ≤ℤ c
at_it a b c h k = omega (arith, ints)

-- no multiple of the period stands between the last by a time and the next
below_next : (k u : ℤ) (p : ℕ) → 0 < p → (k *ℤ pos p) <ℤ (last_start (pos p) u +ℤ pos p) → (k *ℤ pos p) ≤ℤ last_start (pos p) u
below_next k u p some below =
    let q = last_is_multiple u p some in
    elim (either_above k q.0) [
      | inl up ↦ lower (k *ℤ pos p) (q.0 *ℤ pos p) (last_start (pos p) u) (up.0 * p) (ap (λ (z : ℤ). z *ℤ pos p) up.1 ∙ times_more k up.0 p) q.1
      | inr up ↦ above up.0 q.0 q.1 up.1
    ]
  where
    above : (j : ℕ) (q : ℤ) → last_start (pos p) u ≡ q *ℤ pos p → k ≡ q +ℤ pos j → (k *ℤ pos p) ≤ℤ last_start (pos p) u
    above zero q is e = let same : k ≡ q = omega (arith, ints, e) in at_it (k *ℤ pos p) (q *ℤ pos p) (last_start (pos p) u) (ap (λ (z : ℤ). z *ℤ pos p) same) is
    above (suc j) q is e = absurd (no_higher (q *ℤ pos p) (k *ℤ pos p) (last_start (pos p) u) j p (ap (λ (z : ℤ). z *ℤ pos p) e ∙ times_more q (suc j) p) is below)

left_by : (u last rem : ℤ) (r p : ℕ) → last ≡ u -ℤ rem → rem ≡ pos r → r < p → (last ≤ℤ u) × (u <ℤ (last +ℤ pos p))
left_by u last rem r p is h k = (omega (arith, ints), omega (arith, ints))

near : (u : ℤ) (p : ℕ) → 0 < p → (last_start (pos p) u ≤ℤ u) × (u <ℤ (last_start (pos p) u +ℤ pos p))
near u p some = let r = rem_below u p some in left_by u (last_start (pos p) u) _ r.0 p refl r.1 r.2

before : (a u n : ℤ) → a ≤ℤ u → u <ℤ n → a <ℤ n
before a u n h k = omega (arith, ints)

pub begins_by : (period k x : ℤ) → pos 1 ≤ℤ period → (k *ℤ period) ≤ℤ x → (k *ℤ period) ≤ℤ last_start period x
begins_by (pos p) k x long from = let some : 0 < p = omega (arith, ints) in below_next k x p some (before (k *ℤ pos p) x (last_start (pos p) x +ℤ pos p) from (near x p some).1)
begins_by (negsuc p) k x long from = absurd (omega (arith, ints))

one_less : (a b next : ℤ) → a ≡ b → b ≤ℤ (next -ℤ pos 1) → a <ℤ next
one_less a b next h k = omega (arith, ints)

ends_by : (t size first last b : ℤ) → b ≡ first → first ≤ℤ last → last ≤ℤ (t -ℤ size) → (b +ℤ size) ≤ℤ t
ends_by t size first last b h k m = omega (arith, ints)

-- the windows that begin before the first that ends after a time have ended by it
pub ended : (size period t : ℤ) → pos 1 ≤ℤ period → (last_start period (first_start size period t -ℤ pos 1) +ℤ size) ≤ℤ t
ended size (pos p) t long =
    let some : 0 < p = omega (arith, ints) in
    let u : ℤ = t -ℤ size in
    let next : ℤ = last_start (pos p) u +ℤ pos p in
    let b : ℤ = last_start (pos p) (next -ℤ pos 1) in
    let k = last_is_multiple (next -ℤ pos 1) p some in
    ends_by t size (k.0 *ℤ pos p) (last_start (pos p) u) b k.1
    (below_next k.0 u p some (one_less (k.0 *ℤ pos p) b next (sym k.1) (near (next -ℤ pos 1) p some).0)) (near u p some).0
ended size (negsuc p) t long = absurd (omega (arith, ints))

between : (a last u : ℤ) → a ≤ℤ last → last ≤ℤ u → u <ℤ a → ⊥
between a last u h k l = omega (arith, ints)

pub begins_from : (period k u : ℤ) → pos 1 ≤ℤ period → u <ℤ (k *ℤ period) → (last_start period u +ℤ period) ≤ℤ (k *ℤ period)
begins_from (pos p) k u long above =
    let some : 0 < p = omega (arith, ints) in
    let a : ℤ = k *ℤ pos p in
    let last : ℤ = last_start (pos p) u in
    elim (int_lt a (last +ℤ pos p)) as (λ b. int_lt a (last +ℤ pos p) ≡ b → (last +ℤ pos p) ≤ℤ a) [
      | true ↦ λ h. absurd (between a last u (below_next k u p some (less_than a (last +ℤ pos p) h)) (near u p some).0 above)
      | false ↦ λ h. no_less a (last +ℤ pos p) h
    ] refl
begins_from (negsuc p) k u long above = absurd (omega (arith, ints))

-- the last window that begins by a time
pub last_window : (period t : ℤ) → pos 1 ≤ℤ period → (k : ℤ) × (last_start period t ≡ k *ℤ period) × (last_start period t ≤ℤ t) × (t <ℤ (last_start period t +ℤ period))
last_window (pos p) t long =
    let some : 0 < p = omega (arith, ints) in
    let k = last_is_multiple t p some in
    let n = near t p some in
    (k.0, k.1, n.0, n.1)
last_window (negsuc p) t long = absurd (omega (arith, ints))

next_one : (last q one : ℤ) (p : ℕ) → last ≡ q → one ≡ q +ℤ pos (1 * p) → (last +ℤ pos p) ≡ one
next_one last q one p is more = omega (arith, ints)

-- the first that ends after one
pub first_window : (size period t : ℤ) → pos 1 ≤ℤ period → (k : ℤ) × (first_start size period t ≡ k *ℤ period) × ((t -ℤ size) <ℤ first_start size period t)
first_window size (pos p) t long =
    let some : 0 < p = omega (arith, ints) in
    let q = last_is_multiple (t -ℤ size) p some in
    (q.0 +ℤ pos 1, next_one (last_start (pos p) (t -ℤ size)) (q.0 *ℤ pos p) ((q.0 +ℤ pos 1) *ℤ pos p) p q.1 (times_more q.0 1 p), (near (t -ℤ size) p some).1)
first_window size (negsuc p) t long = absurd (omega (arith, ints))
