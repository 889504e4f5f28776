-- A window is in the list of a time's windows exactly if it is one.
use Rattle.std.proofs.Common.{◌≡◌, ◌↔◌, ◌⊎◌, ℕ, zero, suc, ◌+◌, ◌-◌, ◌*◌, ◌/◌, ◌<◌, ◌≤◌, Bool, true, false, cond, [], ◌∷◌, List, ℤ, pos, negsuc, ◌+ℤ◌, ◌-ℤ◌, ◌*ℤ◌, ◌<ℤ◌, ◌≤ℤ◌, refl, ap, sym, ◌∙◌, subst, inl, inr, arith}
use Rattle.std.proofs.lemmas.Int.{ints}
use Rattle.std.proofs.lemmas.Nat.{le-div}
use Rattle.std.proofs.lemmas.List.Elements.{All-nil, All-cons, All-contains, All-filter, All-contains_itself, filter_passes, Contains-push, Contains-push_cases, Contains-append_left, Contains-append_right, Contains-append_cases}
use Rattle.std.specs.Prelude.{Contains, All}
use Rattle.std.specs.List.{filter}
use Rattle.std.specs.Int.{int_rem_euclid}
use Rattle.wsm_windows.specs.declared.window.Window.{Window}
use Rattle.wsm_windows.specs.declared.window.Shape.{Shape}
use Rattle.wsm_windows.specs.declared.window.Shape.TheVariants.{Fixed, Sliding, Session}
use Rattle.wsm_windows.specs.Windows.{window, has_inside, windows_up_to, windows_of, windows_of_shape, IsWindowOf, IsWindowOfShape, IsShape, IsRising, last_start, first_start}
use Rattle.wsm_windows.specs.Left.{windows_from, starts_left}
use Rattle.wsm_windows.proofs.Multiples.{last_is_multiple, times_more, rem_below, either_above}
use Rattle.wsm_windows.proofs.Laws.{from_first_start}

start_is : (a last x y : ℤ) (m : ℕ) → a ≡ last -ℤ pos m → last ≡ x → x ≡ y +ℤ pos m → a ≡ y
start_is a last x y m e f g = omega (arith, ints)

end_is : (a b x size : ℤ) → a ≡ x → b ≡ x +ℤ size → b ≡ a +ℤ size
end_is a b x size e f = omega (arith, ints)

from_inside : (t : ℤ) (w : Window) → has_inside t w ≡ true → w.start ≤ℤ t
from_inside t w h = grind (arith, ints)

until_inside : (t : ℤ) (w : Window) → has_inside t w ≡ true → t <ℤ w.end
until_inside t w h = grind (arith, ints)

-- a list of one and more
first_or_rest : {X : Type 0} (x y : X) (xs : List X) → Contains (y ∷ xs) x → (y ≡ x) ⊎ Contains xs x
first_or_rest x y xs h =
    elim (Contains-append_cases (y ∷ []) xs x h) [
      | inl here ↦ elim (Contains-push_cases [] y x here) [ inl none ↦ absurd (omega (arith, none.1)) | inr same ↦ inl same ]
      | inr there ↦ inr there
    ]

Contains-first : {X : Type 0} (x y : X) (xs : List X) → y ≡ x → Contains (y ∷ xs) x
Contains-first x y xs same = Contains-append_left (y ∷ []) xs x (subst (Contains (y ∷ [])) same (Contains-push [] y))

-- a filter keeps what passes
module _ {X : Type 0} (p : X → Bool) where
  kept_of : (b : Bool) (x y : X) (xs : List X) → p y ≡ b → (y ≡ x) ⊎ Contains (filter p xs) x → p x ≡ true → Contains (cond b (y ∷ filter p xs) (filter p xs)) x
  kept_of true x y xs e (inl same) passes = Contains-first x y (filter p xs) same
  kept_of true x y xs e (inr there) passes = Contains-append_right (y ∷ []) (filter p xs) x there
  kept_of false x y xs e (inl same) passes = let both : true ≡ false = sym passes ∙ (ap p (sym same) ∙ e) in cc
  kept_of false x y xs e (inr there) passes = there

  pub kept : (xs : List X) (x : X) → Contains xs x → p x ≡ true → Contains (filter p xs) x
  kept [] x h passes = absurd (omega (arith, h.1))
  kept (y ∷ xs) x h passes =
      elim (first_or_rest x y xs h) [
        | inl same ↦ kept_of (p y) x y xs refl (inl same) passes
        | inr there ↦ kept_of (p y) x y xs refl (inr (kept xs x there passes)) passes
      ]

-- which windows stand in a list of them
among_up_to : (n : ℕ) (size : ℤ) (p : ℕ) (last : ℤ) (w : Window) → Contains (windows_up_to n size (pos p) last) w → (j : ℕ) × (j < n) × (w ≡ window (last -ℤ pos (j * p)) ((last -ℤ pos (j * p)) +ℤ size))
among_up_to zero size p last w h = absurd (omega (arith, h.1))
among_up_to (suc n) size p last w h =
    elim (Contains-push_cases (windows_up_to n size (pos p) (last -ℤ pos p)) (window last (last +ℤ size)) w h) [
      | inl before ↦
          let r = among_up_to n size p (last -ℤ pos p) w before in
          let one_more : suc r.0 * p ≡ r.0 * p + p = omega arith in
          (suc r.0, omega (arith, r.1), r.2 ∙ ap (λ (s : ℤ). window s (s +ℤ size)) (omega (arith, ints)))
      | inr here ↦ (0, omega arith, sym here ∙ ap (λ (s : ℤ). window s (s +ℤ size)) (omega (arith, ints)))
    ]

up_to_among : (n j : ℕ) (size : ℤ) (p : ℕ) (last start : ℤ) → j < n → start ≡ last -ℤ pos (j * p) → Contains (windows_up_to n size (pos p) last) (window start (start +ℤ size))
up_to_among zero j size p last start l e = absurd (omega arith)
up_to_among (suc n) zero size p last start l e =
    let same : last ≡ start = omega (arith, ints) in
    subst (λ (s : ℤ). Contains (windows_up_to (suc n) size (pos p) last) (window s (s +ℤ size))) same (Contains-push (windows_up_to n size (pos p) (last -ℤ pos p)) (window last (last +ℤ size)))
up_to_among (suc n) (suc j) size p last start l e =
    let one_more : suc j * p ≡ j * p + p = omega arith in
    Contains-append_left (windows_up_to n size (pos p) (last -ℤ pos p)) (window last (last +ℤ size) ∷ []) (window start (start +ℤ size)) (up_to_among n j size p (last -ℤ pos p) start (omega arith) (omega (arith, ints)))

is_one : (s p : ℕ) (t : ℤ) (w : Window) → 0 < p → Contains (windows_of (pos s) (pos p) t) w → IsWindowOf (pos s) (pos p) t w
is_one s p t w h among =
    let n = (s + p - 1) / p in
    let xs = windows_up_to ((s + p - 1) / p) (pos s) (pos p) (last_start (pos p) t) in
    let inside : has_inside t w ≡ true = All-contains (λ x. has_inside t x ≡ true) (filter (has_inside t) xs) w (filter_passes (has_inside t) xs) among in
    let there : Contains xs w = All-contains (Contains xs) (filter (has_inside t) xs) w (All-filter (has_inside t) (Contains xs) xs (All-contains_itself xs)) among in
    let j = among_up_to ((s + p - 1) / p) (pos s) p (last_start (pos p) t) w there in
    let q = last_is_multiple t p h in
    let whole : (q.0 -ℤ pos j.0) +ℤ pos j.0 ≡ q.0 = omega (arith, ints) in
    let back : q.0 *ℤ pos p ≡ (q.0 -ℤ pos j.0) *ℤ pos p +ℤ pos (j.0 * p) = ap (λ (z : ℤ). z *ℤ pos p) (sym whole) ∙ times_more (q.0 -ℤ pos j.0) j.0 p in
    let start : w.start ≡ last_start (pos p) t -ℤ pos (j.0 * p) = ap (λ (v : Window). v.start) j.2 in
    let end : w.end ≡ (last_start (pos p) t -ℤ pos (j.0 * p)) +ℤ pos s = ap (λ (v : Window). v.end) j.2 in
    record { k = q.0 -ℤ pos j.0; start = start_is w.start (last_start (pos p) t) _ _ (j.0 * p) start q.1 back; end = end_is w.start w.end _ (pos s) start end; from = from_inside t w inside; until = until_inside t w inside }

start_of : (a b last x y : ℤ) (m : ℕ) → a ≡ y → last ≡ x → x ≡ y +ℤ pos m → a ≡ last -ℤ pos m
start_of a b last x y m e f g = omega (arith, ints)

soon_enough : (a b last t rem : ℤ) (m r s p : ℕ) → 0 < p → a ≡ last -ℤ pos m → b ≡ a +ℤ pos s → t <ℤ b → rem ≡ pos r → last ≡ t -ℤ rem → m + p ≤ s + p - 1
soon_enough a b last t rem m r s p h e f g i j = omega (arith, ints)

pub is_inside : (t : ℤ) (w : Window) → w.start ≤ℤ t → t <ℤ w.end → has_inside t w ≡ true
is_inside t w h k = grind (arith, ints)

too_late : (a t last x y rem : ℤ) (j r p : ℕ) → r < p → rem ≡ pos r → last ≡ t -ℤ rem → a ≤ℤ t → a ≡ y → last ≡ x → y ≡ x +ℤ pos (suc j * p) → ⊥
too_late a t last x y rem j r p l e f h g i k =
    let one_more : suc j * p ≡ j * p + p = omega arith in
    omega (arith, ints)

stands : (s p : ℕ) (t : ℤ) (w : Window) (j : ℕ) → 0 < p → w.start ≡ last_start (pos p) t -ℤ pos (j * p) → w.end ≡ w.start +ℤ pos s → w.start ≤ℤ t → t <ℤ w.end → Contains (windows_of (pos s) (pos p) t) w
stands s p t w j h start end from until =
    let r = rem_below t p h in
    let one_more : suc j * p ≡ j * p + p = omega arith in
    let soon : j * p + p ≤ s + p - 1 = soon_enough w.start w.end (last_start (pos p) t) t _ (j * p) r.0 s p h start end until r.1 refl in
    let near : suc j ≤ (s + p - 1) / p = le-div (suc j) (s + p - 1) p h (rw one_more soon) in
    let listed : Contains (windows_up_to ((s + p - 1) / p) (pos s) (pos p) (last_start (pos p) t)) (window w.start (w.start +ℤ pos s)) = up_to_among ((s + p - 1) / p) j (pos s) p (last_start (pos p) t) w.start near start in
    let there : Contains (windows_up_to ((s + p - 1) / p) (pos s) (pos p) (last_start (pos p) t)) w = subst (λ (e : ℤ). Contains (windows_up_to ((s + p - 1) / p) (pos s) (pos p) (last_start (pos p) t)) (window w.start e)) (sym end) listed in
    kept (has_inside t) (windows_up_to ((s + p - 1) / p) (pos s) (pos p) (last_start (pos p) t)) w there (is_inside t w from until)

one_is : (s p : ℕ) (t : ℤ) (w : Window) → 0 < p → IsWindowOf (pos s) (pos p) t w → Contains (windows_of (pos s) (pos p) t) w
one_is s p t w h i =
    let q = last_is_multiple t p h in
    let r = rem_below t p h in
    elim (either_above i.k q.0) [
      | inl up ↦ stands s p t w up.0 h (start_of w.start w.end (last_start (pos p) t) (q.0 *ℤ pos p) (i.k *ℤ pos p) (up.0 * p) i.start q.1 (ap (λ (z : ℤ). z *ℤ pos p) up.1 ∙ times_more i.k up.0 p)) i.end i.from i.until
      | inr up ↦ above up.0 q r i up.1
    ]
  where
    above : (j : ℕ) (q : (q : ℤ) × (last_start (pos p) t ≡ q *ℤ pos p)) (r : (r : ℕ) × (int_rem_euclid t (pos p) ≡ pos r) × (r < p)) (i : IsWindowOf (pos s) (pos p) t w) → i.k ≡ q.0 +ℤ pos j → Contains (windows_of (pos s) (pos p) t) w
    above zero q r i e = stands s p t w 0 h (start_of w.start w.end (last_start (pos p) t) (q.0 *ℤ pos p) (i.k *ℤ pos p) (0 * p) i.start q.1 (let same : q.0 ≡ i.k = omega (arith, ints, e) in ap (λ (z : ℤ). z *ℤ pos p) same ∙ omega (arith, ints))) i.end i.from i.until
    above (suc j) q r i e = absurd (too_late w.start t (last_start (pos p) t) (q.0 *ℤ pos p) (i.k *ℤ pos p) _ j r.0 p r.2 r.1 refl i.from i.start q.1 (ap (λ (z : ℤ). z *ℤ pos p) e ∙ times_more q.0 (suc j) p))

exactly_grid : (size period t : ℤ) (w : Window) → pos 1 ≤ℤ period → period ≤ℤ size → Contains (windows_of size period t) w ↔ IsWindowOf size period t w
exactly_grid (pos s) (pos p) t w h le = let more : 0 < p = omega (arith, ints) in (is_one s p t w more, one_is s p t w more)
exactly_grid (pos s) (negsuc p) t w h le = absurd (omega (arith, ints))
exactly_grid (negsuc s) period t w h le = absurd (omega (arith, ints))

exactly_alone : (a w : Window) → Contains (a ∷ []) w ↔ (w ≡ a)
exactly_alone a w =
    (λ h. elim (first_or_rest w a [] h) [ inl same ↦ sym same | inr none ↦ absurd (omega (arith, none.1)) ], λ same. Contains-first w a [] (sym same))

pub exactly_shape : (shape : Shape) (t : ℤ) (w : Window) → IsShape shape → Contains (windows_of_shape shape t) w ↔ IsWindowOfShape shape t w
exactly_shape (Fixed size) t w s = exactly_grid size size t w s.period_low s.period_high
exactly_shape (Sliding size period) t w s = exactly_grid size period t w s.period_low s.period_high
exactly_shape (Session gap) t w s = exactly_alone (window t (t +ℤ gap)) w

-- a list of a time's windows has just those
pub exactly : (shape : Shape) (t : ℤ) (ws : List Window) → IsShape shape → ws ≡ windows_of_shape shape t → (w : Window) → Contains ws w ↔ IsWindowOfShape shape t w
exactly shape t ws s e w = rw e (exactly_shape shape t w s)

later : (a low b p : ℤ) → a <ℤ low → pos 1 ≤ℤ p → b ≡ low +ℤ p → a <ℤ b
later a low b p h k e = omega (arith, ints)

starts_after : (n : ℕ) (size period start a : ℤ) → pos 1 ≤ℤ period → a <ℤ start → All (λ v. a <ℤ v.start) (windows_from n size period start)
starts_after zero size period start a h k = All-nil (λ (v : Window). a <ℤ v.start)
starts_after (suc n) size period start a h k =
    All-cons (λ (v : Window). a <ℤ v.start) (window start (start +ℤ size)) (windows_from n size period (start +ℤ period)) k (starts_after n size period (start +ℤ period) a h (later a start (start +ℤ period) period k h refl))

rising_from : (n : ℕ) (size period start : ℤ) → pos 1 ≤ℤ period → IsRising (windows_from n size period start)
rising_from zero size period start h = tt
rising_from (suc n) size period start h = (starts_after n size period (start +ℤ period) start h (omega (arith, ints)), rising_from n size period (start +ℤ period) h)

rising_grid : (size period t : ℤ) → pos 1 ≤ℤ period → period ≤ℤ size → IsRising (windows_of size period t)
rising_grid size period t h le =
    subst IsRising (from_first_start size period t (first_start size period t) h le refl) (rising_from (starts_left period (first_start size period t) t) size period (first_start size period t) h)

pub rising_shape : (shape : Shape) (t : ℤ) → IsShape shape → IsRising (windows_of_shape shape t)
rising_shape (Fixed size) t s = rising_grid size size t s.period_low s.period_high
rising_shape (Sliding size period) t s = rising_grid size period t s.period_low s.period_high
rising_shape (Session gap) t s = (All-nil (λ (v : Window). t <ℤ v.start), tt)

pub rising : (shape : Shape) (t : ℤ) (ws : List Window) → IsShape shape → ws ≡ windows_of_shape shape t → IsRising ws
rising shape t ws s e = rw e (rising_shape shape t s)
