-- A right record is never late by a watermark that clocks agree on.
use Rattle.std.proofs.Common.{get_or, negsuc, ◌-ℤ◌, ◌≡◌, ◌≤◌, ◌<◌, ◌+◌, ◌-◌, ℕ, zero, suc, max, Bool, true, false, ◌||◌, List, [], ◌∷◌, ◌++◌, map, length, ℤ, pos, ◌+ℤ◌, ◌≤ℤ◌, ◌<ℤ◌, Option, Some, None, refl, sym, ap, subst, ◌∙◌, arith}
use Rattle.std.proofs.lemmas.Int.{ints}
use Rattle.std.specs.Prelude.{int_lt, not, if◌then◌else◌}
use Rattle.std.specs.List.{Contains, list_any, range_with_len}
use Rattle.std.specs.Int.{int_max}
use Rattle.wsm_record.specs.declared.event.Value.{Value}
use Rattle.wsm_record.specs.Event.{Event, Record}
use Rattle.wsm_record.specs.Schema.{Declared, source_count}
use Rattle.wsm_windows.specs.declared.window.Window.{Window}
use Rattle.wsm_windows.specs.declared.window.Shape.{Shape}
use Rattle.wsm_windows.specs.declared.window.Shape.TheVariants.{Fixed, Sliding, Session}
use Rattle.wsm_windows.specs.Windows.{IsShape, IsWindowOf, last_start, window, windows_of_shape}
use Rattle.wsm_windows.specs.Life.{is_live}
use Rattle.wsm_windows.proofs.Members.{exactly_shape}
use Rattle.wsm_windows.proofs.Multiples.{last_is_multiple, rem_below}
use Rattle.wsm_admission.specs.declared.clock.Clock.{Clock}
use Rattle.wsm_admission.specs.declared.verdict.Refusal.{Refusal}
use Rattle.wsm_admission.specs.declared.verdict.Refusal.TheVariants as refusal
use Rattle.wsm_admission.specs.Clock.{is_late, is_late_by, is_time, least, source_mark, verdict, watermark_of}
use Rattle.wsm_watermarks.specs.declared.rule.Rule.{Rule}
use Rattle.wsm_watermarks.specs.declared.stamp.Stamp.{Stamp}
use Rattle.wsm_watermarks.specs.Agreement.{mark_after, raised_by}
use Rattle.wsm_watermarks.specs.Laws.{AreFewWrong, AreRightTo, Told, stamps}
use Rattle.wsm_watermarks.specs.Served.{Row, in_front, mark_row, served, stamp_of, stamps_of, told_by, IsNeverLate}
use Rattle.wsm_watermarks.proofs.Marks.{from_start, raised_rises}
use Rattle.wsm_watermarks.proofs.Tolerance.{few_on, right_by, tolerates}

-- ---- what is told

module _ (rule : Rule) where
  -- a watermark that is told isn't past the right stamps, less the bound
  told_right : (past : List Stamp) (s : Stamp) (most lim m : ℕ) → mark_after rule (s ∷ past) ≤ max rule.start most → most ≤ lim → raised_by rule past s ≡ Some m → m ≤ lim
  told_right past s most lim m low le is =
      let after = raised_rises rule past s m is in
      let from = from_start rule past in
      second rule.start most m lim (omega (arith, after.0, from)) (omega (arith, after.1, low)) le
    where
      second : (a b m lim : ℕ) → a < m → m ≤ max a b → b ≤ lim → m ≤ lim
      second a b m lim less is low = grind arith

  same_stamps : (rows : List Row) → stamps (told_by rows) ≡ stamps_of rows
  same_stamps [] = refl
  same_stamps (row ∷ rows) = ap (λ (ss : List Stamp). stamp_of row ∷ ss) (same_stamps rows)

  -- ---- the watermark of the query

  module _ (c : Clock) (lim : ℕ) (top : ℤ) (from : c.start ≤ℤ top) (to : pos lim ≤ℤ top) where
    marked : (o : Option ℕ) (past : List Event) → ((m : ℕ) → o ≡ Some m → m ≤ lim) → source_mark c 0 past ≤ℤ top → source_mark c 0 (mark_row o ++ past) ≤ℤ top
    marked None past le h = h
    marked (Some m) past le h =
        let low : m ≤ lim = le m refl in
        one (is_time (pos m)) (source_mark c 0 past) low h
      where
        one : (b : Bool) (old : ℤ) → m ≤ lim → old ≤ℤ top → (if b then int_max old (pos m) else old) ≤ℤ top
        one true old low h = grind (arith, ints)
        one false old low h = h

    served_to : (rows : List Row) (time : ℕ) → AreFewWrong rule.agree rule.forget (told_by rows) → AreRightTo time (told_by rows) → time - rule.bound ≤ lim → source_mark c 0 (served rule rows) ≤ℤ top
    served_to [] time few all le = from
    served_to (row ∷ rows) time few all le =
        let low = subst (λ (ss : List Stamp). mark_after rule (stamp_of row ∷ ss) ≤ max rule.start (time - rule.bound)) (same_stamps rows) (tolerates rule (told_by (row ∷ rows)) few time all) in
        marked (raised_by rule (stamps_of rows) (stamp_of row)) (served rule rows) (λ m is. told_right (stamps_of rows) (stamp_of row) (time - rule.bound) lim m low le is) (served_to rows time few.1 all.1 le)

    pub in_front_to : (rows : List Row) (row : Row) (time : ℕ) → mark_after rule (stamp_of row ∷ stamps_of rows) ≤ max rule.start (time - rule.bound) → AreFewWrong rule.agree rule.forget (told_by rows) → AreRightTo time (told_by rows) → time - rule.bound ≤ lim → source_mark c 0 (in_front rule rows row) ≤ℤ top
    in_front_to rows row time low few all le =
        marked (raised_by rule (stamps_of rows) (stamp_of row)) (served rule rows) (λ m is. told_right (stamps_of rows) (stamp_of row) (time - rule.bound) lim m low le is) (served_to rows time few all le)

-- ---- the verdict

abbrev pub first_of : (a b c d e f : Bool) → Option Refusal
first_of a b c d e f =
    if not a then Some refusal.UnknownKey
    else if not b then Some refusal.FieldRange
    else if not c then Some refusal.TimeRange
    else if d then Some refusal.TooFarAhead
    else if e then Some refusal.Late
    else if f then Some refusal.RecordLimit
    else None

pub late_by_rule : (a b c d e f : Bool) → first_of a b c d e f ≡ Some refusal.Late → e ≡ true
late_by_rule false b c d e f h = absurd (cc)
late_by_rule true false c d e f h = absurd (cc)
late_by_rule true true false d e f h = absurd (cc)
late_by_rule true true true true e f h = absurd (cc)
late_by_rule true true true false true f h = refl
late_by_rule true true true false false true h = absurd (cc)
late_by_rule true true true false false false h = absurd (cc)

pub late_time : (c : Clock) (shape : Shape) (declared : Declared) (past : List Event) (key : Option ℕ) (time : ℤ) (values : List Value) → verdict c shape declared past (Record key time values) ≡ Some refusal.Late → is_late c shape (watermark_of c declared past) time ≡ true
late_time c shape declared past key time values h = late_by_rule _ _ _ _ _ _ h

pub one_mark : (c : Clock) (declared : Declared) (past : List Event) → source_count declared ≡ 1 → watermark_of c declared past ≡ source_mark c 0 past
one_mark c declared past one = ap (λ (n : ℕ). least (map (λ s. source_mark c s past) (range_with_len 0 n))) one

-- ---- a window of a time ends after it

-- one of the windows of a time
pub record HasWindow (ws : List Window) (t : ℤ) : Type 0 where
  pub w : Window
  pub there : Contains ws w
  pub until : t <ℤ w.end

on_grid : (s p : ℕ) (t : ℤ) → 0 < p → p ≤ s → IsWindowOf (pos s) (pos p) t (window (last_start (pos p) t) (last_start (pos p) t +ℤ pos s))
on_grid s p t some le =
    let q = last_is_multiple t p some in
    let r = rem_below t p some in
    record { k = q.0; start = q.1; end = refl; from = from _ r.0 r.1; until = until _ r.0 r.1 r.2 }
  where
    from : (rem : ℤ) (r : ℕ) → rem ≡ pos r → (t -ℤ rem) ≤ℤ t
    from rem r is = omega (arith, ints)

    until : (rem : ℤ) (r : ℕ) → rem ≡ pos r → r < p → t <ℤ ((t -ℤ rem) +ℤ pos s)
    until rem r is less = omega (arith, ints)

grid_window : (shape : Shape) (size period t : ℤ) → pos 1 ≤ℤ period → period ≤ℤ size → IsWindowOf size period t (window (last_start period t) (last_start period t +ℤ size))
grid_window shape (pos s) (pos p) t low le = on_grid s p t (omega (arith, ints)) (omega (arith, ints))
grid_window shape (pos s) (negsuc p) t low le = absurd (omega (arith, ints))
grid_window shape (negsuc s) period t low le = absurd (omega (arith, ints))

some_window : (shape : Shape) (t : ℤ) → IsShape shape → HasWindow (windows_of_shape shape t) t
some_window (Fixed size) t s =
    let w = window (last_start size t) (last_start size t +ℤ size) in
    let of_it = grid_window (Fixed size) size size t s.period_low s.period_high in
    record { w = w; there = (exactly_shape (Fixed size) t w s).1 of_it; until = of_it.until }
some_window (Sliding size period) t s =
    let w = window (last_start period t) (last_start period t +ℤ size) in
    let of_it = grid_window (Sliding size period) size period t s.period_low s.period_high in
    record { w = w; there = (exactly_shape (Sliding size period) t w s).1 of_it; until = of_it.until }
some_window (Session gap) t s =
    let w = window t (t +ℤ gap) in
    record { w = w; there = (exactly_shape (Session gap) t w s).1 refl; until = after t gap s.period_low }
  where
    after : (t gap : ℤ) → pos 1 ≤ℤ gap → t <ℤ (t +ℤ gap)
    after t gap low = omega (arith, ints)

any_at : (p : Window → Bool) (ws : List Window) (k : ℕ) (w : Window) → k < length ws → get_or ws k w ≡ w → p w ≡ true → list_any p ws ≡ true
any_at p [] k w within is pass = absurd (omega (arith, within))
any_at p (v ∷ ws) zero w within is pass = let here : p v ≡ true = ap p is ∙ pass in rw here refl
any_at p (v ∷ ws) (suc k) w within is pass = or_true (p v) (list_any p ws) (any_at p ws k w (omega (arith, within)) is pass)
  where
    or_true : (a b : Bool) → b ≡ true → (a || b) ≡ true
    or_true true b h = refl
    or_true false b h = h

live_then : (mark time lateness end : ℤ) → mark ≤ℤ (time +ℤ lateness) → time <ℤ end → int_lt mark (end +ℤ lateness) ≡ true
live_then mark time lateness end le until = grind (arith, ints)

not_before : (mark time lateness : ℤ) → mark ≤ℤ (time +ℤ lateness) → int_lt (time +ℤ lateness) mark ≡ false
not_before mark time lateness le = grind (arith, ints)

-- where the watermark isn't past a time and the lateness, a record of the time isn't late, however lateness counts
pub prompt : (c : Clock) (shape : Shape) (mark time : ℤ) → IsShape shape → mark ≤ℤ (time +ℤ c.lateness) → is_late c shape mark time ≡ false
prompt c shape mark time ok le = one c.from_window
  where
    one : (b : Bool) → is_late_by b shape c.lateness mark time ≡ false
    one false = not_before mark time c.lateness le
    one true =
        let some = some_window shape time ok in
        let live : is_live some.w c.lateness mark ≡ true = live_then mark time c.lateness some.w.end le some.until in
        let any = any_at (λ w. is_live w c.lateness mark) (windows_of_shape shape time) some.there.0 some.w some.there.1 some.there.2 live in
        ap not any

greater : (a b : ℕ) → b ≤ max a b
greater a b = grind arith

first_of_two : (a b : ℕ) → a ≤ max a b
first_of_two a b = grind arith

within_bound : (a b bound : ℕ) → a ≤ b + bound → max a b - bound ≤ b
within_bound a b bound h = grind arith

time_to : (t : ℕ) (l : ℤ) → pos 0 ≤ℤ l → pos t ≤ℤ (pos t +ℤ l)
time_to t l h = omega (arith, ints)

pub never_late : (rule : Rule) (c : Clock) (shape : Shape) (declared : Declared) → 0 < rule.agree → source_count declared ≡ 1 → IsShape shape → pos 0 ≤ℤ c.lateness → IsNeverLate rule c shape declared
never_late rule c shape declared some one ok low rows few time all row near start is =
    let most = max time row.time in
    let right : Told = record { stamp = stamp_of row; wrong = false } in
    let others = right_by (told_by rows) time most (first_of_two time row.time) all in
    let all_right : AreRightTo most (right ∷ told_by rows) = (λ _. greater time row.time, others) in
    let held = subst (λ (ss : List Stamp). mark_after rule (stamp_of row ∷ ss) ≤ max rule.start (most - rule.bound)) (same_stamps rule rows) (tolerates rule (right ∷ told_by rows) (few_on rule.agree rule.forget (told_by rows) (stamp_of row) some few) most all_right) in
    let past = in_front rule rows row in
    let top = pos row.time +ℤ c.lateness in
    let by_source = in_front_to rule c row.time top start (time_to row.time c.lateness low) rows row most held few others (within_bound time row.time rule.bound near) in
    let mark : watermark_of c declared past ≤ℤ top = subst (λ (m : ℤ). m ≤ℤ top) (sym (one_mark c declared past one)) by_source in
    let late = late_time c shape declared past row.key (pos row.time) row.values is in
    let in_time = prompt c shape (watermark_of c declared past) (pos row.time) ok mark in
    absurd (clash (is_late c shape (watermark_of c declared past) (pos row.time)) late in_time)
  where
    clash : (b : Bool) → b ≡ true → b ≡ false → ⊥
    clash b h k = absurd cc
