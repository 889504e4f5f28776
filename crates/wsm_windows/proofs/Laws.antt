-- The windows of a time are what the iterator gives, and all windows with the time inside.
use Rattle.std.proofs.Common.{◌≡◌, ℕ, suc, ◌+◌, ◌-◌, ◌*◌, ◌/◌, ◌%◌, ◌<◌, ◌≤◌, true, false, ◌∷◌, ℤ, pos, negsuc, ◌+ℤ◌, ◌-ℤ◌, ◌≤ℤ◌, refl, ap, sym, ◌∙◌, arith}
use Rattle.std.proofs.lemmas.Int.{ints, by_lt_z}
use Rattle.std.proofs.lemmas.Nat.{le-div}
use Rattle.std.proofs.Math.Nat.{div-add-mod', div-eq-sub-div, div-eq_of_lt}
use Rattle.std.specs.Prelude.{int_le, unsigned_abs}
use Rattle.std.specs.Int.{int_rem_euclid}
use Rattle.wsm_windows.specs.Windows.{windows_of, first_start}
use Rattle.wsm_windows.specs.Left.{windows_from, starts_left}
use Rattle.wsm_windows.proofs.Multiples.{rem_below, rem_after}
use Rattle.wsm_windows.proofs.PeriodicWindows.{from_up_to, last_inside}

-- a start less, where one is left
one_fewer : (p e : ℕ) → 0 < p → p ≤ e → e / p ≡ suc ((e - p) / p)
one_fewer p e h le = div-eq-sub-div h le ∙ omega arith

pub starts_step : (p : ℕ) (start time : ℤ) → 0 < p → start ≤ℤ time → starts_left (pos p) start time ≡ suc (starts_left (pos p) (start +ℤ pos p) time)
starts_step p start time h le =
    by_lt_z {P = starts_left (pos p) start time ≡ suc (starts_left (pos p) (start +ℤ pos p) time)} time (start +ℤ pos p)
    (λ short. let here : int_le start time ≡ true = grind (arith, ints) in
    let past : int_le (start +ℤ pos p) time ≡ false = grind (arith, ints) in
    let few : unsigned_abs (time -ℤ start) < p = omega (arith, ints) in
    rw (here, past, div-eq_of_lt few) refl)
    (λ more. let here : int_le start time ≡ true = grind (arith, ints) in
    let next : int_le (start +ℤ pos p) time ≡ true = grind (arith, ints) in
    let less : unsigned_abs (time -ℤ (start +ℤ pos p)) ≡ unsigned_abs (time -ℤ start) - p = omega (arith, ints) in
    let many : p ≤ unsigned_abs (time -ℤ start) = omega (arith, ints) in
    rw (here, next, less, one_fewer p (unsigned_abs (time -ℤ start)) h many) refl)

-- what an iterator gives first, and what it has left then
pub next_left : (period size start time a b n : ℤ) → pos 1 ≤ℤ period → start ≤ℤ time → a ≡ start → b ≡ start +ℤ size → n ≡ start +ℤ period → windows_from (starts_left period start time) size period start ≡ record { start = a; end = b } ∷ windows_from (starts_left period n time) size period n
next_left (pos p) size start time a b n h le e f g =
    let more : 0 < p = omega (arith, ints) in
    rw (e, f, g, starts_step p start time more le) refl
next_left (negsuc p) size start time a b n h le e f g = absurd (omega (arith, ints))

-- the windows from the first start on are those with the time inside
from_first : (s p e : ℕ) (t first : ℤ) → 0 < p → p ≤ s → e < s → s ≤ e + p → int_rem_euclid t (pos p) ≡ pos (e % p) → t ≡ first +ℤ pos e → windows_of (pos s) (pos p) t ≡ windows_from (suc (e / p)) (pos s) (pos p) first
from_first s p e t first h le near far rem is =
    let whole : e / p * p + e % p ≡ e = div-add-mod' e p in
    let one_more : suc (e / p) * p ≡ e / p * p + p = omega arith in
    let enough : suc (e / p) ≤ (s + p - 1) / p = le-div (suc (e / p)) (s + p - 1) p h (omega arith) in
    rw rem (last_inside (suc (e / p)) ((s + p - 1) / p) s p (e % p) t (t -ℤ pos (e % p)) enough (omega (arith, ints)) (omega arith) (omega arith)
    ∙ sym (from_up_to (suc (e / p)) (pos s) p first (t -ℤ pos (e % p)) (omega (arith, ints))))

from_rem : (s p e : ℕ) (t : ℤ) → 0 < p → first_start (pos s) (pos p) t +ℤ pos e ≡ t → int_rem_euclid t (pos p) ≡ pos (e % p)
from_rem s p e t h is = ap (λ (u : ℤ). int_rem_euclid u (pos p)) (sym is) ∙ rem_after (t -ℤ pos s) p e h

-- how far a time is past its first start
pub past_first : (s p : ℕ) (t : ℤ) → 0 < p → p ≤ s → (e : ℕ) × (e < s) × (s ≤ e + p) × (first_start (pos s) (pos p) t +ℤ pos e ≡ t)
past_first s p t h le =
    let r = rem_below (t -ℤ pos s) p h in
    (s + r.0 - p, omega (arith, r.2), omega (arith, r.2), rw r.1 (omega (arith, ints, r.2)))

pub from_first_start : (size period t first : ℤ) → pos 1 ≤ℤ period → period ≤ℤ size → first ≡ first_start size period t → windows_from (starts_left period first t) size period first ≡ windows_of size period t
from_first_start (pos s) (pos p) t first h le is =
    let more : 0 < p = omega (arith, ints) in
    let within : p ≤ s = omega (arith, ints) in
    let e = past_first s p t more within in
    let past : first +ℤ pos e.0 ≡ t = rw is e.3 in
    let here : int_le first t ≡ true = grind (arith, ints) in
    let far : unsigned_abs (t -ℤ first) ≡ e.0 = omega (arith, ints) in
    rw (here, far) (sym (from_first s p e.0 t first more within e.1 e.2 (from_rem s p e.0 t more e.3) (sym past)))
from_first_start (pos s) (negsuc p) t first h le is = absurd (omega (arith, ints))
from_first_start (negsuc s) period t first h le is = absurd (omega (arith, ints))

-- the same, of a list made of other names of the numbers
pub from_fields : (size period t first a s p u : ℤ) → pos 1 ≤ℤ period → period ≤ℤ size → first ≡ first_start size period t → a ≡ first → s ≡ size → p ≡ period → u ≡ t → windows_from (starts_left p a u) s p a ≡ windows_of size period t
from_fields size period t first a s p u h le is e f g i = rw (e, f, g, i) (from_first_start size period t first h le is)
