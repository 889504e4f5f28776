-- The rows of windows: which is the first that has a time inside, and which is the next.
use Rattle.std.proofs.Common.{◌≡◌, ◌≢◌, ◌⊎◌, Bool, false, cond, [], ℕ, zero, suc, ◌+◌, ◌-◌, ◌*◌, ◌/◌, ◌^◌, ◌<◌, ◌≤◌, List, ◌∷◌, filter, length, ℤ, pos, negsuc, ◌+ℤ◌, ◌-ℤ◌, ◌*ℤ◌, ◌<ℤ◌, ◌≤ℤ◌, refl, sym, ap, ◌∙◌, inl, inr, arith}
use Rattle.std.specs.Prelude.{int_le, int_lt, unsigned_abs}
use Rattle.std.specs.Int.{int_rem_euclid, int_div_euclid}
use Rattle.std.proofs.lemmas.Int.{ints, by_lt_z}
use Rattle.std.proofs.lemmas.Nat.{mul-le}
use Rattle.std.proofs.lemmas.Bool.{cases_eq}
use Rattle.wsm_windows.specs.declared.window.Window.{Window}
use Rattle.wsm_windows.specs.declared.window.Shape.TheVariants.{Sliding}
use Rattle.wsm_windows.specs.Windows.{IsRising, first_start, greatest_span, window, windows_of}
use Rattle.wsm_windows.specs.Left.{starts_left, windows_from}
use Rattle.wsm_windows.proofs.Bounds.{next_on_grid as next_multiple}
use Rattle.wsm_windows.proofs.Laws.{next_left}
use Rattle.wsm_windows.proofs.LiveWindows.{past_filter, rising_filter}
use Rattle.wsm_semantics.proofs.ManyKeys.{length-filter}
use Rattle.wsm_windows.proofs.Members.{rising}
use Rattle.wsm_windows.proofs.Multiples.{rem_below}
use Rattle.wsm_ring.specs.declared.ring.Ring.{Ring}
use Rattle.wsm_ring.specs.declared.ring.Row.{Row}
use Rattle.wsm_ring.specs.Ring.{IsAlone, IsNextOnGrid, IsOnGrid, IsRing, IsRow, row_of, window_number}
use Rattle.wsm_ring.proofs.InTurn.{few_windows}
use Rattle.wsm_ring.proofs.Live.{rising_numbers}
use Rattle.wsm_ring.proofs.Rings.{behind_on_grid, grid_start, next_on_grid, on_grid_next, quot_rem}

-- the first start on the grid of a window that ends past a time
pub first_on_grid : (size period time : ℤ) → pos 1 ≤ℤ period → IsNextOnGrid period (time -ℤ size) (first_start size period time)
first_on_grid size period time h = behind_on_grid period (time -ℤ size) (first_start size period time) h (omega (arith, ints))

-- a start on the grid that is at most a period behind where windows end too early is the first
pub near_first : (size period time k near : ℤ) → pos 1 ≤ℤ period → near ≡ k *ℤ period → (time -ℤ size) <ℤ near → near ≤ℤ ((time -ℤ size) +ℤ period) → near ≡ first_start size period time
near_first size period time k near h on past close =
    let first = first_start size period time in
    let is = first_on_grid size period time h in
    let least : first ≤ℤ near = is.least k near on past in
    by_lt_z {P = near ≡ first} first near
    (λ less. let far : (first +ℤ period) ≤ℤ near = next_on_grid period is.grid.0 k first near h is.grid.1 on less in absurd (omega (arith, ints, far, close, is.behind)))
    (λ le. omega (arith, ints, least, le))

-- what remains of a number, where it is told as a multiple and less than the divisor besides
rem_is : (n x : ℤ) (b r : ℕ) → r < b → n ≡ x *ℤ pos b +ℤ pos r → int_rem_euclid n (pos b) ≡ pos r
rem_is n x b r less is =
    let some : 0 < b = omega arith in
    let m = rem_below n b some in
    let y = int_div_euclid n (pos b) *ℤ pos b in
    let z = x *ℤ pos b in
    let whole : n ≡ y +ℤ pos m.0 = quot_rem n b some ∙ ap (λ (s : ℤ). y +ℤ s) m.1 in
    m.1 ∙ by_lt_z {P = pos m.0 ≡ pos r} y z
    (λ low. let far : (y +ℤ pos b) ≤ℤ z = next_multiple b (int_div_euclid n (pos b)) x y z refl refl low in absurd (omega (arith, ints, whole, is, far, m.2)))
    (λ le. by_lt_z {P = pos m.0 ≡ pos r} z y
    (λ high. let far : (z +ℤ pos b) ≤ℤ y = next_multiple b x (int_div_euclid n (pos b)) z y refl refl high in absurd (omega (arith, ints, whole, is, far, less)))
    (λ ge. omega (arith, ints, whole, is, le, ge)))

-- a period later the number is one more
number_next_pos : (start : ℤ) (p : ℕ) (k : ℤ) → 0 < p → start ≡ k *ℤ pos p → int_div_euclid (start +ℤ pos p) (pos p) ≡ int_div_euclid start (pos p) +ℤ pos 1
number_next_pos start p k h on =
    let positive : pos 1 ≤ℤ pos p = omega (arith, ints) in
    let n = int_div_euclid start (pos p) in
    let m = int_div_euclid (start +ℤ pos p) (pos p) in
    let here : start ≡ n *ℤ pos p = grid_start start k (pos p) positive on in
    let next : (start +ℤ pos p) ≡ (n +ℤ pos 1) *ℤ pos p = on_grid_next n (pos p) start positive here in
    let told : (start +ℤ pos p) ≡ m *ℤ pos p = grid_start (start +ℤ pos p) (n +ℤ pos 1) (pos p) positive next in
    let low : m ≤ℤ (n +ℤ pos 1) = rising_numbers p m (n +ℤ pos 1) (start +ℤ pos p) (start +ℤ pos p) h told next (omega (arith, ints)) in
    let high : (n +ℤ pos 1) ≤ℤ m = rising_numbers p (n +ℤ pos 1) m (start +ℤ pos p) (start +ℤ pos p) h next told (omega (arith, ints)) in
    omega (arith, ints, low, high)

number_next : (start period k : ℤ) → pos 1 ≤ℤ period → start ≡ k *ℤ period → int_div_euclid (start +ℤ period) period ≡ int_div_euclid start period +ℤ pos 1
number_next start (pos p) k h on = number_next_pos start p k (omega (arith, ints)) on
number_next start (negsuc p) k h on = absurd (omega (arith, ints))

rem_more : (n : ℤ) (b m : ℕ) → int_rem_euclid n (pos b) ≡ pos m → m + 1 < b → int_rem_euclid (n +ℤ pos 1) (pos b) ≡ pos (m + 1)
rem_more n b m rem less =
    let x = int_div_euclid n (pos b) *ℤ pos b in
    let whole : n ≡ x +ℤ pos m = quot_rem n b (omega arith) ∙ ap (λ (s : ℤ). x +ℤ s) rem in
    rem_is (n +ℤ pos 1) (int_div_euclid n (pos b)) b (m + 1) less (omega (arith, ints, whole))

rem_round : (n : ℤ) (b m : ℕ) → int_rem_euclid n (pos b) ≡ pos m → m + 1 ≡ b → int_rem_euclid (n +ℤ pos 1) (pos b) ≡ pos 0
rem_round n b m rem full =
    let some : 0 < b = omega arith in
    let q = int_div_euclid n (pos b) in
    let x = q *ℤ pos b in
    let whole : n ≡ x +ℤ pos m = quot_rem n b some ∙ ap (λ (s : ℤ). x +ℤ s) rem in
    let next : (x +ℤ pos b) ≡ (q +ℤ pos 1) *ℤ pos b = on_grid_next q (pos b) x (omega (arith, ints)) refl in
    rem_is (n +ℤ pos 1) (q +ℤ pos 1) b 0 some (omega (arith, ints, whole, next, full))

-- a row that isn't the last ends before the slots do
not_last : (m b keys : ℕ) → 1 ≤ keys → m * keys + keys ≢ b * keys → m < b → m + 1 < b
not_last m b keys some apart less =
    let one_more : (m + 1) * keys ≡ m * keys + keys = omega arith in
    elim (cases_eq (m + 1) b) [
      | inl same ↦ absurd (apart (rw (← one_more, same) refl))
      | inr other ↦ omega (arith, other)
    ]

less_one : (b keys : ℕ) → 1 ≤ b → (b - 1) * keys + keys ≡ b * keys
less_one zero keys some = absurd (omega arith)
less_one (suc b) keys some =
    let same : suc b - 1 ≡ b = omega arith in
    let one_more : suc b * keys ≡ b * keys + keys = omega arith in
    rw (same, one_more) refl

last_row : (m b keys : ℕ) → 1 ≤ keys → m * keys + keys ≡ b * keys → m < b → m + 1 ≡ b
last_row m b keys some same less =
    elim (cases_eq (m + 1) b) [
      | inl full ↦ full
      | inr other ↦
          let two_more : (m + 2) * keys ≡ m * keys + keys + keys = omega arith in
          let far : (m + 2) * keys ≤ b * keys = mul-le (m + 2) keys b keys (omega (arith, other)) (omega arith) in
          absurd (omega (arith, two_more, far, same))
    ]

module _ (r : Ring) (row : Row) (is : IsRing r) (of : IsRow r row) where
  number : window_number r (row.start +ℤ r.period) ≡ window_number r row.start +ℤ pos 1
  number = number_next row.start r.period of.grid.0 is.period_low of.grid.1

  remains : (m : ℕ) × (int_rem_euclid (window_number r row.start) (pos r.bound) ≡ pos m) × (m < r.bound)
  remains = rem_below (window_number r row.start) r.bound (omega (arith, is.bound))

  first_slot : row.slot ≡ remains.0 * r.keys
  first_slot = of.slot ∙ ap (λ (z : ℤ). unsigned_abs z * r.keys) remains.1

  pub next_grid : IsOnGrid r (row.start +ℤ r.period)
  next_grid = (of.grid.0 +ℤ pos 1, on_grid_next of.grid.0 r.period row.start is.period_low of.grid.1)

  -- behind the last row comes the first
  pub round : row.slot + r.keys ≡ r.bound * r.keys → row_of r (row.start +ℤ r.period) ≡ 0
  round end =
      let full : remains.0 + 1 ≡ r.bound = last_row remains.0 r.bound r.keys is.keys (omega (arith, first_slot, end)) remains.2 in
      let rem : int_rem_euclid (window_number r (row.start +ℤ r.period)) (pos r.bound) ≡ pos 0 = ap (λ (n : ℤ). int_rem_euclid n (pos r.bound)) number ∙ rem_round (window_number r row.start) r.bound remains.0 remains.1 full in
      ap (λ (z : ℤ). unsigned_abs z * r.keys) rem ∙ omega arith

  -- behind another the next one
  pub next_slot : row.slot + r.keys ≢ r.bound * r.keys → row_of r (row.start +ℤ r.period) ≡ row.slot + r.keys
  next_slot other =
      let less : remains.0 + 1 < r.bound = not_last remains.0 r.bound r.keys is.keys (λ same. other (omega (arith, first_slot, same))) remains.2 in
      let rem : int_rem_euclid (window_number r (row.start +ℤ r.period)) (pos r.bound) ≡ pos (remains.0 + 1) = ap (λ (n : ℤ). int_rem_euclid n (pos r.bound)) number ∙ rem_more (window_number r row.start) r.bound remains.0 remains.1 less in
      ap (λ (z : ℤ). unsigned_abs z * r.keys) rem ∙ omega (arith, first_slot)

-- a period sooner is on the grid too
pub previous_grid : (r : Ring) (start : ℤ) → pos 1 ≤ℤ r.period → IsOnGrid r start → IsOnGrid r (start -ℤ r.period)
previous_grid r start h on =
    let k = on.0 -ℤ pos 1 in
    let next : (k *ℤ r.period +ℤ r.period) ≡ (k +ℤ pos 1) *ℤ r.period = on_grid_next k r.period (k *ℤ r.period) h refl in
    let same : k +ℤ pos 1 ≡ on.0 = omega (arith, ints) in
    let whole : (k *ℤ r.period +ℤ r.period) ≡ start = next ∙ ap (λ (n : ℤ). n *ℤ r.period) same ∙ sym on.1 in
    (k, omega (arith, ints, whole))

module _ (r : Ring) (row : Row) (is : IsRing r) (of : IsRow r row) where
  -- the first row is behind the last, and another behind the one before it
  previous_either : ((row_of r (row.start -ℤ r.period) + r.keys ≡ r.bound * r.keys) × (row.slot ≡ 0)) ⊎ (row.slot ≡ row_of r (row.start -ℤ r.period) + r.keys)
  previous_either =
      let previous : Row = record { start = row.start -ℤ r.period; slot = row_of r (row.start -ℤ r.period) } in
      let has : IsRow r previous = record { grid = previous_grid r row.start is.period_low of.grid; slot = refl } in
      let same : (row.start -ℤ r.period) +ℤ r.period ≡ row.start = omega (arith, ints) in
      let here : row.slot ≡ row_of r ((row.start -ℤ r.period) +ℤ r.period) = of.slot ∙ ap (λ (z : ℤ). row_of r z) (sym same) in
      elim (cases_eq (previous.slot + r.keys) (r.bound * r.keys)) [
        | inl full ↦ inl (full, here ∙ round r previous is has full)
        | inr other ↦ inr (here ∙ next_slot r previous is has other)
      ]

  pub previous_last : row.slot ≡ 0 → row_of r (row.start -ℤ r.period) ≡ (r.bound - 1) * r.keys
  previous_last first =
      let one_less : (r.bound - 1) * r.keys + r.keys ≡ r.bound * r.keys = less_one r.bound r.keys is.bound in
      elim previous_either [
        | inl full ↦ omega (arith, one_less, full.0)
        | inr other ↦ absurd (omega (arith, other, first, is.keys))
      ]

  pub previous_slot : row.slot ≢ 0 → row_of r (row.start -ℤ r.period) + r.keys ≡ row.slot
  previous_slot later = elim previous_either [ inl full ↦ absurd (later full.1) | inr other ↦ sym other ]

-- the window at 0 has the first row
pub zero_row : (r : Ring) → IsRing r → row_of r (pos 0) ≡ 0
zero_row r is =
    let number : window_number r (pos 0) ≡ pos 0 = zero_number r.period is.period_low in
    let rem : int_rem_euclid (window_number r (pos 0)) (pos r.bound) ≡ pos 0 = rem_is (window_number r (pos 0)) (pos 0) r.bound 0 (omega (arith, is.bound)) (number ∙ omega (arith, ints)) in
    ap (λ (z : ℤ). unsigned_abs z * r.keys) rem ∙ omega arith
  where
    zero_number : (p : ℤ) → pos 1 ≤ℤ p → int_div_euclid (pos 0) p ≡ pos 0
    zero_number (pos p) h = ap pos (omega (arith, ints))
    zero_number (negsuc p) h = absurd (omega (arith, ints))

-- ---- the windows that have a time inside

-- those from a start on
abbrev pub windows_on : Ring → ℤ → ℤ → List Window
windows_on r time start = windows_from (starts_left r.period start time) r.size r.period start

-- of all those that end past a time
abbrev pub ending_past : Ring → ℤ → ℤ → List Window
ending_past r time past = filter (λ w. int_lt past w.end) (windows_of r.size r.period time)

-- they are those from the first start that does
pub all_on : (r : Ring) (time past start : ℤ) → IsRing r → time ≤ℤ past → start ≡ first_start r.size r.period past → windows_on r time start ≡ ending_past r time past
all_on r time past start is after first = past_filter r.size r.period time past start is.period_low is.period_high after first

-- one, and those from the next start on
pub one_on : (r : Ring) (time start next : ℤ) → IsRing r → start ≤ℤ time → next ≡ start +ℤ r.period → windows_on r time start ≡ window start (start +ℤ r.size) ∷ windows_on r time next
one_on r time start next is inside more = next_left r.period r.size start time start (start +ℤ r.size) next is.period_low inside refl refl more

pub rising_on : (r : Ring) (time past : ℤ) → IsRing r → r.size ≤ℤ greatest_span → IsRising (ending_past r time past)
rising_on r time past is few =
    rising_filter (λ w. int_lt past w.end) (windows_of r.size r.period time)
    (rising (Sliding r.size r.period) time (windows_of r.size r.period time) (record { period_low = is.period_low; period_high = is.period_high; size_high = few }) refl)

pub few_on : (r : Ring) (time past : ℤ) → IsRing r → r.size ≤ℤ greatest_span → length (ending_past r time past) ≤ 2 ^ 62
few_on r time past is few =
    let most = few_windows (Sliding r.size r.period) (record { period_low = is.period_low; period_high = is.period_high; size_high = few }) time in
    let less = length-filter (λ (w : Window). int_lt past w.end) (windows_of r.size r.period time) in
    omega (arith, most, less)

-- none is left from a start behind the time on
pub none_on : (r : Ring) (time start : ℤ) → int_le start time ≡ false → windows_on r time start ≡ []
none_on r time start h = ap (λ (b : Bool). windows_from (cond b (suc (unsigned_abs (time -ℤ start) / unsigned_abs r.period)) 0) r.size r.period start) h

-- a window that is the only one of its time, and ends past another
pub alone_on : (r : Ring) (start time past : ℤ) → IsRing r → IsOnGrid r start → time ≤ℤ past → IsAlone r start time past → ending_past r time past ≡ window start (start +ℤ r.size) ∷ []
alone_on r start time past is grid after alone =
    let next = start +ℤ r.period in
    let first : start ≡ first_start r.size r.period past =
    near_first r.size r.period past grid.0 start is.period_low grid.1 (omega (arith, ints, alone.lasting)) (omega (arith, ints, alone.fixed, alone.inside, after)) in
    let behind : time <ℤ next = omega (arith, ints, alone.fixed, alone.lasting, after) in
    let none : int_le next time ≡ false = grind (arith, ints) in
    sym (all_on r time past start is after first)
    ∙ one_on r time start next is alone.inside refl
    ∙ ap (λ (ws : List Window). window start (start +ℤ r.size) ∷ ws) (none_on r time next none)
