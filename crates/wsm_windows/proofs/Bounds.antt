-- How many windows of one key can be live at once.
use Rattle.std.proofs.Common.{◌≡◌, ℕ, zero, suc, ◌+◌, ◌-◌, ◌*◌, ◌/◌, ◌%◌, ◌<◌, ◌≤◌, [], ◌∷◌, List, length, ℤ, pos, negsuc, ◌+ℤ◌, ◌-ℤ◌, ◌*ℤ◌, ◌<ℤ◌, ◌≤ℤ◌, ap, sym, ◌∙◌, min, inl, inr, arith}
use Rattle.std.proofs.lemmas.Int.{ints}
use Rattle.std.proofs.lemmas.Nat.{le-div, div_below}
use Rattle.std.proofs.lemmas.List.Elements.{All-head, All-tail}
use Rattle.std.proofs.Math.Nat.{div-add-mod'}
use Rattle.std.specs.Prelude.{unsigned_abs, All}
use Rattle.std.specs.Int.{div_ceil}
use Rattle.wsm_windows.specs.declared.window.Window.{Window}
use Rattle.wsm_windows.specs.declared.window.Shape.{Shape}
use Rattle.wsm_windows.specs.declared.window.Shape.TheVariants.{Fixed, Sliding, Session}
use Rattle.wsm_windows.specs.Windows.{IsShape, IsSpan, IsRising}
use Rattle.wsm_windows.specs.Life.{IsHeld, IsOnGrid, AreSessions, AreOfOneKey, live_bound}
use Rattle.wsm_windows.proofs.Multiples.{times_more, either_above}

-- each starts a period or more after those before it
abbrev AreApart : ℕ → List Window → Type 0
AreApart p [] = Unit {0}
AreApart p (w ∷ ws) = All (λ v. (w.start +ℤ pos p) ≤ℤ v.start) ws × AreApart p ws

count_apart : (p : ℕ) (ws : List Window) (low high : ℤ) → AreApart p ws → All (λ w. low ≤ℤ w.start) ws → All (λ w. w.start ≤ℤ high) ws → low ≤ℤ (high +ℤ pos p) → pos (length ws * p) ≤ℤ ((high -ℤ low) +ℤ pos p)
count_apart p [] low high apart from until room = omega (arith, ints)
count_apart p (w ∷ ws) low high apart from until room =
    let first : low ≤ℤ w.start = All-head (λ (v : Window). low ≤ℤ v.start) w ws from in
    let within : w.start ≤ℤ high = All-head (λ (v : Window). v.start ≤ℤ high) w ws until in
    let rest : pos (length ws * p) ≤ℤ ((high -ℤ (w.start +ℤ pos p)) +ℤ pos p) = count_apart p ws (w.start +ℤ pos p) high apart.1 apart.0 (All-tail (λ (v : Window). v.start ≤ℤ high) w ws until) (omega (arith, ints)) in
    let one_more : suc (length ws) * p ≡ length ws * p + p = omega arith in
    rw one_more (omega (arith, ints))

ceil_step : (n q r p span : ℕ) → r < p → span ≡ q * p + r → n * p ≤ span + p - 1 → n ≤ q + min 1 r
ceil_step n q zero p span h e le =
    let one_more : suc q * p ≡ q * p + p = omega arith in
    omega (arith, le-div n (span + p - 1) p (omega arith) le, div_below (span + p - 1) p (suc q) (omega arith) (omega arith))
ceil_step n q (suc r) p span h e le =
    let two_more : suc (suc q) * p ≡ q * p + p + p = omega arith in
    omega (arith, le-div n (span + p - 1) p (omega arith) le, div_below (span + p - 1) p (suc (suc q)) (omega arith) (omega arith))

at_most_ceil : (n span p : ℕ) → 0 < p → n * p ≤ span + p - 1 → n ≤ div_ceil span p
at_most_ceil n span p h le = ceil_step n (span / p) (span % p) p span (omega arith) (sym (div-add-mod' span p)) le

pub next_above : (p j : ℕ) (a b x y : ℤ) → a ≡ x → b ≡ y → y ≡ x +ℤ pos (j * p) → a <ℤ b → (a +ℤ pos p) ≤ℤ b
next_above p zero a b x y e f g less = absurd (omega (arith, ints))
next_above p (suc j) a b x y e f g less =
    let one_more : suc j * p ≡ j * p + p = omega arith in
    omega (arith, ints)

pub never_below : (p j : ℕ) (a b x y : ℤ) → a ≡ x → b ≡ y → x ≡ y +ℤ pos (j * p) → a <ℤ b → ⊥
never_below p j a b x y e f g less = omega (arith, ints)

pub next_on_grid : (p : ℕ) (k l a b : ℤ) → a ≡ k *ℤ pos p → b ≡ l *ℤ pos p → a <ℤ b → (a +ℤ pos p) ≤ℤ b
next_on_grid p k l a b e f less =
    elim (either_above k l) [
      | inl up ↦ next_above p up.0 a b (k *ℤ pos p) (l *ℤ pos p) e f (ap (λ (z : ℤ). z *ℤ pos p) up.1 ∙ times_more k up.0 p) less
      | inr up ↦ absurd (never_below p up.0 a b (k *ℤ pos p) (l *ℤ pos p) e f (ap (λ (z : ℤ). z *ℤ pos p) up.1 ∙ times_more l up.0 p) less)
    ]

apart_on_grid : (size : ℤ) (p : ℕ) (ws : List Window) → All (IsOnGrid size (pos p)) ws → IsRising ws → AreApart p ws
apart_on_grid size p [] grid rising = tt
apart_on_grid size p (w ∷ ws) grid rising =
    let here : IsOnGrid size (pos p) w = All-head (IsOnGrid size (pos p)) w ws grid in
    let rest : All (IsOnGrid size (pos p)) ws = All-tail (IsOnGrid size (pos p)) w ws grid in
    (λ k d l. next_on_grid p here.k (rest k d l).k w.start _ here.start (rest k d l).start (rising.0 k d l), apart_on_grid size p ws rest rising.1)

ends_before : (a b c p : ℤ) → (a +ℤ p) ≤ℤ b → b ≤ℤ c → (a +ℤ p) ≤ℤ c
ends_before a b c p h k = omega (arith, ints)

apart_sessions : (p : ℕ) (ws : List Window) → AreSessions (pos p) ws → AreApart p ws
apart_sessions p [] h = tt
apart_sessions p (w ∷ ws) h = (λ k d l. ends_before w.start w.end _ (pos p) h.0 (h.1 k d l), apart_sessions p ws h.2)

low_start : (a b late mark size : ℤ) → mark <ℤ (b +ℤ late) → b ≡ a +ℤ size → (((mark -ℤ late) -ℤ size) +ℤ pos 1) ≤ℤ a
low_start a b late mark size h e = omega (arith, ints)

few_on_grid : (n p : ℕ) (skew late mark size : ℤ) → pos 0 ≤ℤ skew → pos 0 ≤ℤ late → pos 1 ≤ℤ size → pos n ≤ℤ (((mark +ℤ skew) -ℤ (((mark -ℤ late) -ℤ size) +ℤ pos 1)) +ℤ pos p) → n ≤ unsigned_abs ((skew +ℤ late) +ℤ size) + p - 1
few_on_grid n p skew late mark size f l s h = omega (arith, ints)

grid_bound : (size period skew late mark : ℤ) (ws : List Window) → pos 1 ≤ℤ period → pos 1 ≤ℤ size → IsSpan skew → IsSpan late → All (IsOnGrid size period) ws × IsRising ws → All (IsHeld skew late mark) ws → length ws ≤ div_ceil (unsigned_abs ((skew +ℤ late) +ℤ size)) (unsigned_abs period)
grid_bound size (pos p) skew late mark ws h one f l grid held =
    at_most_ceil (length ws) (unsigned_abs ((skew +ℤ late) +ℤ size)) p (omega (arith, ints))
    (few_on_grid (length ws * p) p skew late mark size f.low l.low one
    (count_apart p ws (((mark -ℤ late) -ℤ size) +ℤ pos 1) (mark +ℤ skew) (apart_on_grid size p ws grid.0 grid.1)
    (λ k d i. low_start _ _ late mark size (held k d i).live (grid.0 k d i).end) (λ k d i. (held k d i).near) (omega (arith, ints, f.low, l.low))))
grid_bound size (negsuc p) skew late mark ws h one f l grid held = absurd (omega (arith, ints))

after_first : (b c late mark : ℤ) → mark <ℤ (b +ℤ late) → b ≤ℤ c → ((mark -ℤ late) +ℤ pos 1) ≤ℤ c
after_first b c late mark h k = omega (arith, ints)

few_after : (n p : ℕ) (skew late mark : ℤ) → pos 0 ≤ℤ skew → pos 0 ≤ℤ late → 0 < p → pos n ≤ℤ (((mark +ℤ skew) -ℤ ((mark -ℤ late) +ℤ pos 1)) +ℤ pos p) → n ≤ unsigned_abs (skew +ℤ late) + p - 1
few_after n p skew late mark f l s h = omega (arith, ints)

session_bound : (gap skew late mark : ℤ) (ws : List Window) → pos 1 ≤ℤ gap → IsSpan skew → IsSpan late → AreSessions gap ws → All (IsHeld skew late mark) ws → length ws ≤ 1 + div_ceil (unsigned_abs (skew +ℤ late)) (unsigned_abs gap)
session_bound (pos p) skew late mark [] h f l are held = omega arith
session_bound (pos p) skew late mark (w ∷ ws) h f l are held =
    let more : 0 < p = omega (arith, ints) in
    let first : IsHeld skew late mark w = All-head (IsHeld skew late mark) w ws held in
    let rest : All (IsHeld skew late mark) ws = All-tail (IsHeld skew late mark) w ws held in
    let few : length ws ≤ div_ceil (unsigned_abs (skew +ℤ late)) p =
    at_most_ceil (length ws) (unsigned_abs (skew +ℤ late)) p more
    (few_after (length ws * p) p skew late mark f.low l.low more
    (count_apart p ws ((mark -ℤ late) +ℤ pos 1) (mark +ℤ skew) (apart_sessions p ws are.2)
    (λ k d i. after_first w.end _ late mark first.live (are.1 k d i)) (λ k d i. (rest k d i).near) (omega (arith, ints, f.low, l.low)))) in
    omega (arith, few)
session_bound (negsuc p) skew late mark ws h f l are held = absurd (omega (arith, ints))

-- no more windows of a key than the bound can be live at once
pub enough : (shape : Shape) (skew late mark : ℤ) (ws : List Window) → IsShape shape → IsSpan skew → IsSpan late → AreOfOneKey shape ws → All (IsHeld skew late mark) ws → length ws ≤ live_bound shape skew late
enough (Fixed size) skew late mark ws s f l are held = grid_bound size size skew late mark ws s.period_low s.period_low f l are held
enough (Sliding size period) skew late mark ws s f l are held = grid_bound size period skew late mark ws s.period_low (omega (arith, ints, s.period_low, s.period_high)) f l are held
enough (Session gap) skew late mark ws s f l are held = session_bound gap skew late mark ws s.period_low f l are held

pub ceil_same : (r a b x y : ℕ) → r ≡ div_ceil a b → a ≡ x → b ≡ y → r ≡ div_ceil x y
ceil_same r a b x y e f g = rw (← f, ← g) e
