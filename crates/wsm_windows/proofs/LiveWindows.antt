-- Of the windows of a time those that end past another time, and those that are live.
use Rattle.std.proofs.Common.{◌≡◌, ◌↔◌, ℕ, zero, suc, ◌+◌, ◌-◌, ◌*◌, ◌/◌, ◌<◌, ◌≤◌, Bool, true, false, cond, [], ◌∷◌, ◌++◌, List, ℤ, pos, negsuc, ◌+ℤ◌, ◌-ℤ◌, ◌*ℤ◌, ◌<ℤ◌, ◌≤ℤ◌, refl, ap, sym, ◌∙◌, inl, inr, arith}
use Rattle.std.proofs.lemmas.Int.{ints, by_lt_z}
use Rattle.std.proofs.lemmas.List.Elements.{All-filter, All-contains, All-contains_itself, filter_passes, filter-append}
use Rattle.std.specs.Prelude.{Contains, int_le, int_lt, unsigned_abs}
use Rattle.std.specs.Int.{int_max}
use Rattle.std.specs.List.{filter}
use Rattle.wsm_windows.specs.declared.window.Window.{Window}
use Rattle.wsm_windows.specs.declared.window.Shape.{Shape}
use Rattle.wsm_windows.specs.Windows.{window, has_inside, windows_up_to, windows_of, windows_of_shape, last_start, first_start, IsShape, IsTime, IsPlaced, IsRising}
use Rattle.wsm_windows.specs.Left.{windows_from, starts_left}
use Rattle.wsm_windows.specs.Life.{is_live, live_windows_of, IsLiveWindowOf}
use Rattle.wsm_windows.proofs.Multiples.{last_is_multiple, times_more, either_above}
use Rattle.wsm_windows.proofs.Laws.{starts_step, past_first, from_first_start}
use Rattle.wsm_windows.proofs.Members.{kept, exactly_shape, rising_shape}

-- ---- those that end past a time begin at the first that does

all_past : (n p : ℕ) (size start past : ℤ) → past <ℤ (start +ℤ size) → filter (λ w. int_lt past w.end) (windows_from n size (pos p) start) ≡ windows_from n size (pos p) start
all_past zero p size start past h = refl
all_past (suc n) p size start past h =
    let here : int_lt past (start +ℤ size) ≡ true = grind (arith, ints) in
    rw here (ap (λ ws. window start (start +ℤ size) ∷ ws) (all_past n p size (start +ℤ pos p) past (omega (arith, ints))))

from_past : (j p : ℕ) (size start time past first : ℤ) → 0 < p → first ≡ start +ℤ pos (j * p) → past <ℤ (first +ℤ size) → (first +ℤ size) ≤ℤ (past +ℤ pos p) →
    filter (λ w. int_lt past w.end) (windows_from (starts_left (pos p) start time) size (pos p) start) ≡ windows_from (starts_left (pos p) first time) size (pos p) first
from_past zero p size start time past first h is after near =
    let same : first ≡ start = omega (arith, ints) in
    rw same (all_past (starts_left (pos p) start time) p size start past (omega (arith, ints)))
from_past (suc j) p size start time past first h is after near =
    let one_more : suc j * p ≡ j * p + p = omega arith in
    by_lt_z {P = filter (λ w. int_lt past w.end) (windows_from (starts_left (pos p) start time) size (pos p) start) ≡ windows_from (starts_left (pos p) first time) size (pos p) first} time start
    (λ none. let here : int_le start time ≡ false = grind (arith, ints) in
    let there : int_le first time ≡ false = int_after start first time (j * p + p) (omega (arith, ints)) none in
    rw (here, there) refl)
    (λ some. let behind : int_lt past (start +ℤ size) ≡ false = int_before start first past size (j * p) p (omega (arith, ints)) near in
    rw (starts_step p start time h some, behind) (from_past j p size (start +ℤ pos p) time past first h (omega (arith, ints)) after near))
  where
    int_after : (start first time : ℤ) (n : ℕ) → first ≡ start +ℤ pos n → time <ℤ start → int_le first time ≡ false
    int_after start first time n is l = grind (arith, ints)

    int_before : (start first past size : ℤ) (n p : ℕ) → first ≡ (start +ℤ pos n) +ℤ pos p → (first +ℤ size) ≤ℤ (past +ℤ pos p) → int_lt past (start +ℤ size) ≡ false
    int_before start first past size n p is l = grind (arith, ints)

same_first : (p j e f s : ℕ) (a b t u : ℤ) → a ≡ b +ℤ pos (j * p) → a +ℤ pos e ≡ t → b +ℤ pos f ≡ u → s ≤ e + p → f < s → t ≤ℤ u → b ≡ a
same_first p zero e f s a b t u is at bt long short before = omega (arith, ints)
same_first p (suc j) e f s a b t u is at bt long short before =
    let one_more : suc j * p ≡ j * p + p = omega arith in
    absurd (omega (arith, ints))

pub past_filter : (size period time past first : ℤ) → pos 1 ≤ℤ period → period ≤ℤ size → time ≤ℤ past → first ≡ first_start size period past →
    windows_from (starts_left period first time) size period first ≡ filter (λ w. int_lt past w.end) (windows_of size period time)
past_filter (pos s) (pos p) time past first h le before is =
    let more : 0 < p = omega (arith, ints) in
    let within : p ≤ s = omega (arith, ints) in
    let a : ℤ = first_start (pos s) (pos p) time in
    let e = past_first s p time more within in
    let f = past_first s p past more within in
    let q = last_is_multiple (time -ℤ pos s) p more in
    let r = last_is_multiple (past -ℤ pos s) p more in
    let ends : first +ℤ pos f.0 ≡ past = rw is f.3 in
    let steps : (j : ℕ) × (first ≡ a +ℤ pos (j * p)) = elim (either_above q.0 r.0) [
      | inl up ↦ (up.0, is ∙ ap (λ (z : ℤ). z +ℤ pos p) (r.1 ∙ ap (λ (z : ℤ). z *ℤ pos p) up.1 ∙ times_more q.0 up.0 p ∙ ap (λ (z : ℤ). z +ℤ pos (up.0 * p)) (sym q.1)) ∙ swapped (last_start (pos p) (time -ℤ pos s)) (up.0 * p) p)
      | inr up ↦
          let above : a ≡ first +ℤ pos (up.0 * p) = ap (λ (z : ℤ). z +ℤ pos p) (q.1 ∙ ap (λ (z : ℤ). z *ℤ pos p) up.1 ∙ times_more r.0 up.0 p ∙ ap (λ (z : ℤ). z +ℤ pos (up.0 * p)) (sym r.1)) ∙ swapped (last_start (pos p) (past -ℤ pos s)) (up.0 * p) p ∙ ap (λ (z : ℤ). z +ℤ pos (up.0 * p)) (sym is) in
          let same : first ≡ a = same_first p up.0 e.0 f.0 s a first time past above e.3 ends e.2 f.1 before in
          (0, let nothing : 0 * p ≡ 0 = omega arith in same ∙ omega (arith, ints))
    ] in
    sym (from_past steps.0 p (pos s) a time past first more steps.1 (omega (arith, ints, f.1)) (omega (arith, ints, f.2)))
    ∙ ap (filter (λ w. int_lt past w.end)) (from_first_start (pos s) (pos p) time a h le refl)
  where
    swapped : (x : ℤ) (n p : ℕ) → (x +ℤ pos n) +ℤ pos p ≡ (x +ℤ pos p) +ℤ pos n
    swapped x n p = omega (arith, ints)
past_filter (pos s) (negsuc p) time past first h le before is = absurd (omega (arith, ints))
past_filter (negsuc s) period time past first h le before is = absurd (omega (arith, ints))

-- the same, of a list made of other names of the numbers
pub past_fields : (size period time past first a s p u : ℤ) → pos 1 ≤ℤ period → period ≤ℤ size → time ≤ℤ past → first ≡ first_start size period past → a ≡ first → s ≡ size → p ≡ period → u ≡ time →
    windows_from (starts_left p a u) s p a ≡ filter (λ w. int_lt past w.end) (windows_of size period time)
past_fields size period time past first a s p u h le before is e f g i = rw (e, f, g, i) (past_filter size period time past first h le before is)

-- ---- those that end past a time and past what has expired are live

module _ (f g : Window → Bool) (size t : ℤ) (same : (start : ℤ) → has_inside t (window start (start +ℤ size)) ≡ true → f (window start (start +ℤ size)) ≡ g (window start (start +ℤ size))) where
  one_same : (start : ℤ) (b : Bool) → has_inside t (window start (start +ℤ size)) ≡ b → filter f (cond b (window start (start +ℤ size) ∷ []) []) ≡ filter g (cond b (window start (start +ℤ size) ∷ []) [])
  one_same start true inside = ap (λ (b : Bool). cond b (window start (start +ℤ size) ∷ []) []) (same start inside)
  one_same start false inside = refl

  all_same : (n : ℕ) (period start : ℤ) → filter f (filter (has_inside t) (windows_up_to n size period start)) ≡ filter g (filter (has_inside t) (windows_up_to n size period start))
  all_same zero period start = refl
  all_same (suc n) period start =
      let ws : List Window = windows_up_to n size period (start -ℤ period) in
      let w : List Window = window start (start +ℤ size) ∷ [] in
      ap (filter f) (filter-append (has_inside t) ws w) ∙ filter-append f (filter (has_inside t) ws) (filter (has_inside t) w)
      ∙ (λ i. all_same n period (start -ℤ period) i ++ one_same start (has_inside t (window start (start +ℤ size))) refl i)
      ∙ sym (ap (filter g) (filter-append (has_inside t) ws w) ∙ filter-append g (filter (has_inside t) ws) (filter (has_inside t) w))

greater : (past time expired end : ℤ) → past ≡ int_max time expired → time <ℤ end → int_lt past end ≡ int_lt expired end
greater past time expired end is h = grind (arith, ints)

inside_placed : (size t start : ℤ) → pos 1 ≤ℤ size → size ≤ℤ pos 1000000000000 → IsTime t → has_inside t (window start (start +ℤ size)) ≡ true → IsPlaced (window start (start +ℤ size))
inside_placed size t start low high time inside =
    let from : start ≤ℤ t = grind (arith, ints) in
    let until : t <ℤ (start +ℤ size) = grind (arith, ints) in
    record { apart = omega (arith, ints, time.low); low = omega (arith, ints, time.low); high = omega (arith, ints, time.high) }

inside_until : (t start end : ℤ) → has_inside t (window start end) ≡ true → t <ℤ end
inside_until t start end h = grind (arith, ints)

pub live_grid : (size period time lateness mark past expired : ℤ) → pos 1 ≤ℤ size → size ≤ℤ pos 1000000000000 → IsTime time → past ≡ int_max time expired → ((w : Window) → IsPlaced w → int_lt expired w.end ≡ is_live w lateness mark) →
    filter (λ w. int_lt past w.end) (windows_of size period time) ≡ filter (λ w. is_live w lateness mark) (windows_of size period time)
live_grid size period time lateness mark past expired low high t is live =
    all_same (λ w. int_lt past w.end) (λ w. is_live w lateness mark) size time
    (λ start inside. greater past time expired (start +ℤ size) is (inside_until time start (start +ℤ size) inside) ∙ live (window start (start +ℤ size)) (inside_placed size time start low high t inside))
    ((unsigned_abs size + unsigned_abs period - 1) / unsigned_abs period) period (last_start period time)

-- ---- which these are

pub past_mark : (w : Window) (lateness mark : ℤ) → is_live w lateness mark ≡ true → mark <ℤ (w.end +ℤ lateness)
past_mark w lateness mark h = grind (arith, ints)

pub at_mark : (w : Window) (lateness mark : ℤ) → mark <ℤ (w.end +ℤ lateness) → is_live w lateness mark ≡ true
at_mark w lateness mark h = grind (arith, ints)

exactly_filtered : (shape : Shape) (time lateness mark : ℤ) → IsShape shape → (w : Window) → Contains (live_windows_of shape time lateness mark) w ↔ IsLiveWindowOf shape time lateness mark w
exactly_filtered shape time lateness mark s w =
    let xs : List Window = windows_of_shape shape time in
    let live : Window → Bool = λ v. is_live v lateness mark in (
      λ among. record {
        of_time = (exactly_shape shape time w s).0 (All-contains (Contains xs) (filter live xs) w (All-filter live (Contains xs) xs (All-contains_itself xs)) among);
        live = past_mark w lateness mark (All-contains (λ v. live v ≡ true) (filter live xs) w (filter_passes live xs) among);
      },
      λ is. kept live xs w ((exactly_shape shape time w s).1 is.of_time) (at_mark w lateness mark is.live),
    )

-- a list of a time's live windows has just those
pub exactly_live : (shape : Shape) (time lateness mark : ℤ) (ws : List Window) → IsShape shape → ws ≡ live_windows_of shape time lateness mark → (w : Window) → Contains ws w ↔ IsLiveWindowOf shape time lateness mark w
exactly_live shape time lateness mark ws s e w = rw e (exactly_filtered shape time lateness mark s w)

pub rising_filter : (p : Window → Bool) (ws : List Window) → IsRising ws → IsRising (filter p ws)
rising_filter p [] h = tt
rising_filter p (w ∷ ws) h =
    elim (p w) as (λ b. IsRising (cond b (w ∷ filter p ws) (filter p ws))) [
      | true ↦ (All-filter p (λ (v : Window). w.start <ℤ v.start) ws h.0, rising_filter p ws h.1)
      | false ↦ rising_filter p ws h.1
    ]

pub rising_live : (shape : Shape) (time lateness mark : ℤ) (ws : List Window) → IsShape shape → ws ≡ live_windows_of shape time lateness mark → IsRising ws
rising_live shape time lateness mark ws s e = rw e (rising_filter (λ w. is_live w lateness mark) (windows_of_shape shape time) (rising_shape shape time s))

-- what a shape's windows that end past a time are
pub are_live : (shape : Shape) (size period time lateness mark past : ℤ) → windows_of_shape shape time ≡ windows_of size period time →
    filter (λ w. int_lt past w.end) (windows_of size period time) ≡ filter (λ w. is_live w lateness mark) (windows_of size period time) → (ws : List Window) → ws ≡ filter (λ w. int_lt past w.end) (windows_of size period time) → ws ≡ live_windows_of shape time lateness mark
are_live shape size period time lateness mark past these live ws e = e ∙ live ∙ ap (filter (λ w. is_live w lateness mark)) (sym these)

-- past a time and past what has expired by a mark is a time
pub is_past : (time expired mark past : ℤ) → IsTime time → IsTime mark → expired ≤ℤ mark → past ≡ int_max time expired → IsTime past
is_past time expired mark past t m by is = record { low = grind (arith, ints, t.low); high = grind (arith, ints, t.high, m.high) }
