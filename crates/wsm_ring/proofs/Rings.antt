-- Windows on the grid of a ring, and the order of their places.
use Rattle.std.proofs.Common.{SFits, w64, rules, Option, Some, None, ◌≡◌, ℕ, suc, ◌+◌, ◌-◌, ◌*◌, ◌/◌, ◌%◌, ◌<◌, ◌≤◌, true, false, ℤ, pos, negsuc, ◌+ℤ◌, ◌-ℤ◌, ◌*ℤ◌, ◌<ℤ◌, ◌≤ℤ◌, refl, sym, ap, subst, ◌∙◌, arith}
use Rattle.std.specs.Int.{int_max, int_rem_euclid, int_div_euclid}
use Rattle.std.specs.Bool.{Decides}
use Rattle.std.specs.Option.{SomeIff, option_eq}
use Rattle.std.specs.Ordering.{int_eq, int_cmp, nat_cmp}
use Rattle.std.specs.declared.cmp.Ordering.TheVariants.{Less, Equal}
use lib.Signed.{le_z, lt_z}
use Rattle.std.proofs.lemmas.Int.{ints, by_lt_z, int_max_is}
use Rattle.std.proofs.lemmas.Nat.{row_fits}
use Rattle.std.proofs.lemmas.Bool.Decides.{nat_tests, Decides-like, Decides-int_eq}
use Rattle.std.proofs.Math.Nat.{div-add-mod'}
use Rattle.std.proofs.Math.IntN.{negsuc-*ℤ-pos}
use Rattle.wsm_ring.specs.declared.ring.Ring.{Ring}
use Rattle.wsm_ring.specs.Ring.{IsFirstPast, IsNextOnGrid, IsOnGrid, IsRing, IsOfRing, window_number, row_of, slot_of}
use Rattle.wsm_windows.proofs.Multiples.{rem_below, times_more}
use Rattle.wsm_windows.proofs.Bounds.{next_on_grid as next_multiple}
use Rattle.wsm_windows.specs.declared.place.Place.{Place}
use Rattle.wsm_windows.specs.Places.{place_cmp}

below_zero : (a p : ℕ) → 0 < p → negsuc a ≡ negsuc (a / p) *ℤ pos p +ℤ pos (p - 1 - a % p)
below_zero a p h =
    let whole : a / p * p + a % p ≡ a = div-add-mod' a p in
    let below : a % p < p = omega arith in
    let more : suc (a / p) * p ≡ a / p * p + p = omega arith in
    rw (negsuc-*ℤ-pos (a / p) p, more) (omega (arith, ints))

-- a number is its quotient times the divisor, and the remainder
pub quot_rem : (s : ℤ) (p : ℕ) → 0 < p → s ≡ int_div_euclid s (pos p) *ℤ pos p +ℤ int_rem_euclid s (pos p)
quot_rem (pos a) p h = let whole : a / p * p + a % p ≡ a = div-add-mod' a p in omega (arith, ints)
quot_rem (negsuc a) p h = below_zero a p h

-- a row of slots ends within them
pub row_within : (r : Ring) (start : ℤ) → IsRing r → row_of r start + r.keys ≤ r.bound * r.keys
row_within r start is =
    let rem = rem_below (window_number r start) r.bound (omega (arith, is.bound)) in
    rw rem.1 (row_fits rem.0 r.keys r.bound r.keys rem.2 (omega arith))

pub slot_within : (r : Ring) (p : Place) → IsRing r → IsOfRing r p → slot_of r p < r.bound * r.keys
slot_within r p is of = omega (arith, row_within r p.start is, of.key)

on_grid_pos : (s : ℤ) (p : ℕ) → 0 < p → int_rem_euclid s (pos p) ≡ pos 0 → s ≡ int_div_euclid s (pos p) *ℤ pos p
on_grid_pos s p h rem = quot_rem s p h ∙ rw rem (omega (arith, ints))

-- a time is on the grid where nothing remains
pub on_grid : (s p : ℤ) → pos 1 ≤ℤ p → int_rem_euclid s p ≡ pos 0 → s ≡ int_div_euclid s p *ℤ p
on_grid s (pos p) h rem = on_grid_pos s p (omega (arith, ints)) rem
on_grid s (negsuc p) h rem = absurd (omega (arith, ints))

grid_start_pos : (s k : ℤ) (p : ℕ) → 0 < p → s ≡ k *ℤ pos p → s ≡ int_div_euclid s (pos p) *ℤ pos p
grid_start_pos s k p h is =
    let m = rem_below s p h in
    let x = int_div_euclid s (pos p) *ℤ pos p in
    let y = k *ℤ pos p in
    let whole : s ≡ x +ℤ pos m.0 = quot_rem s p h ∙ ap (λ (r : ℤ). x +ℤ r) m.1 in
    by_lt_z {P = s ≡ x} x y
    (λ less. let far : (x +ℤ pos p) ≤ℤ y = next_multiple p (int_div_euclid s (pos p)) k x y refl refl less in
    absurd (omega (arith, ints, whole, is, far, m.2)))
    (λ more. omega (arith, ints, whole, is, more))

-- a multiple of the period is one by its number
pub grid_start : (s k p : ℤ) → pos 1 ≤ℤ p → s ≡ k *ℤ p → s ≡ int_div_euclid s p *ℤ p
grid_start s k (pos p) h is = grid_start_pos s k p (omega (arith, ints)) is
grid_start s k (negsuc p) h is = absurd (omega (arith, ints))

pub int_less : (x y : ℤ) → x <ℤ y → int_cmp x y ≡ Less
int_less x y h = grind (arith, ints)

int_same : (x y : ℤ) → x ≡ y → int_cmp x y ≡ Equal
int_same x y h = rw h (grind (arith, ints))

nat_less : (x y : ℕ) → x < y → nat_cmp x y ≡ Less
nat_less x y h = grind (arith, nat_tests)

pub window_less : (r : Ring) (p q : Place) → IsOfRing r p → IsOfRing r q → p.start <ℤ q.start → place_cmp p q ≡ Less
window_less r p q a b less = rw (int_less p.end q.end (omega (arith, ints, a.end, b.end))) refl

pub key_less : (r : Ring) (p q : Place) → IsOfRing r p → IsOfRing r q → p.start ≡ q.start → p.key < q.key → place_cmp p q ≡ Less
key_less r p q a b same less = rw (int_same p.end q.end (omega (arith, ints, a.end, b.end)), int_same p.start q.start same, nat_less p.key q.key less) refl

-- whether a sum is made and is the end
pub Decides-ends : (o : Option ℤ) (s e : ℤ) → SomeIff o (SFits w64 s) s → SFits w64 e → Decides (option_eq int_eq o (Some e)) (e ≡ s)
Decides-ends None s e h fits = (λ bad. let no : false ≡ true = bad in cc, λ same. absurd (h (subst (λ z. SFits w64 z) same fits)))
Decides-ends (Some x) s e h fits = Decides-like (int_eq x e) (λ is. sym is ∙ h.1) (λ is. h.1 ∙ sym is) (Decides-int_eq x e)

zero_rem : (p : ℤ) → pos 1 ≤ℤ p → int_rem_euclid (pos 0) p ≡ pos 0
zero_rem (pos p) h = ap pos (omega (arith, ints))
zero_rem (negsuc p) h = absurd (omega (arith, ints))

pub zero_on_grid : (p : ℤ) → pos 1 ≤ℤ p → pos 0 ≡ int_div_euclid (pos 0) p *ℤ p
zero_on_grid p h = on_grid (pos 0) p h (zero_rem p h)

-- of two times on the grid the later is a period or more behind the other
pub next_on_grid : (p k l a b : ℤ) → pos 1 ≤ℤ p → a ≡ k *ℤ p → b ≡ l *ℤ p → a <ℤ b → (a +ℤ p) ≤ℤ b
next_on_grid (pos p) k l a b h e f less = next_multiple p k l a b e f less
next_on_grid (negsuc p) k l a b h e f less = absurd (omega (arith, ints))

-- the time a period later is on the grid too
pub on_grid_next : (k p a : ℤ) → pos 1 ≤ℤ p → a ≡ k *ℤ p → (a +ℤ p) ≡ (k +ℤ pos 1) *ℤ p
on_grid_next k (pos p) a h is = let one : 1 * p ≡ p = omega arith in rw (times_more k 1 p, one, is) refl
on_grid_next k (negsuc p) a h is = absurd (omega (arith, ints))

-- what lies between two numbers that fit fits too
pub between_fits : (a b c : ℤ) → SFits w64 a → SFits w64 c → a ≤ℤ b → b ≤ℤ c → SFits w64 b
between_fits a b c f g h k = search (rules, ints)

pub le_from : (x y : ℤ) → le_z x y ≡ true → x ≤ℤ y
le_from x y h = grind (arith, ints)

pub lt_from : (x y : ℤ) → le_z x y ≡ false → y <ℤ x
lt_from x y h = grind (arith, ints)

pub less_from : (x y : ℤ) → lt_z x y ≡ true → x <ℤ y
less_from x y h = grind (arith, ints)

pub not_less_from : (x y : ℤ) → lt_z x y ≡ false → y ≤ℤ x
not_less_from x y h = grind (arith, ints)

pub behind_on_grid : (p before next : ℤ) → pos 1 ≤ℤ p → next ≡ before +ℤ (p -ℤ int_rem_euclid before p) → IsNextOnGrid p before next
behind_on_grid (pos p) before next h is =
    let m = rem_below before p (omega (arith, ints, h)) in
    let q = int_div_euclid before (pos p) in
    let x = q *ℤ pos p in
    let whole : before ≡ x +ℤ pos m.0 = quot_rem before p (omega (arith, ints, h)) ∙ ap (λ (r : ℤ). x +ℤ r) m.1 in
    let left : next ≡ before +ℤ (pos p -ℤ pos m.0) = is ∙ ap (λ (r : ℤ). before +ℤ (pos p -ℤ r)) m.1 in
    let sum : next ≡ x +ℤ pos p = omega (arith, ints, whole, left) in
    record {
      grid = (q +ℤ pos 1, sum ∙ on_grid_next q (pos p) x h refl);
      behind = omega (arith, ints, whole, left, m.2);
      near = omega (arith, ints, left, m.2);
      least = λ l other on past. let far : (x +ℤ pos p) ≤ℤ other = next_on_grid (pos p) q l x other h refl on (omega (arith, ints, whole, past)) in omega (arith, ints, sum, far);
    }
behind_on_grid (negsuc p) before next h is = absurd (omega (arith, ints))

-- the later of a first start and the next one behind a time less the size
pub later_past : (r : Ring) (first after before next start : ℤ) → IsOnGrid r first → IsNextOnGrid r.period before next → before ≡ after -ℤ r.size → start ≡ int_max first next → IsFirstPast r first after start
later_past r first after before next start on is less most = by_lt_z {P = IsFirstPast r first after start} first next
    (λ low. let same : start ≡ next = omega (arith, ints, most, int_max_is first next, low) in
    rw same (is.grid, omega (arith, ints, is.behind, less), λ other grid from ends. is.least grid.0 other grid.1 (omega (arith, ints, ends, less))))
    (λ high. let same : start ≡ first = omega (arith, ints, most, int_max_is first next, high) in
    rw same (on, omega (arith, ints, is.behind, less, high), λ other grid from ends. from))
