-- Where a time parts no session of a history, it parts none of one that lacks some of its records.
use Rattle.std.proofs.Common.{◌≡◌, ℕ, true, false, ◌&&◌, cond, List, [], ◌∷◌, ◌++◌, map, length, ℤ, pos, ◌+ℤ◌, ◌-ℤ◌, ◌≤ℤ◌, ◌⊎◌, inl, inr, Some, None, refl, sym, ap, subst, ◌∙◌, ⊎_elim, append_assoc, arith}
use Rattle.std.proofs.lemmas.Int.{ints}
use Rattle.std.proofs.lemmas.Bool.{or_cases, or_left, or_right}
use Rattle.std.proofs.lemmas.List.{map-append}
use Rattle.std.specs.Prelude.{filter, int_le, int_lt, nat_eq}
use Rattle.std.specs.List.{AllByRecursion}
use Rattle.wsm_record.proofs.Lists.{or_left as not_left}
use Rattle.wsm_record.specs.declared.event.Value.{Value}
use Rattle.wsm_record.specs.Event.{Event, Record}
use Rattle.wsm_windows.specs.Windows.{IsShape, last_start, first_start}
use Rattle.wsm_windows.specs.declared.window.Window.{Window}
use Rattle.wsm_windows.specs.declared.window.Shape.{Shape}
use Rattle.wsm_windows.specs.declared.window.Shape.TheVariants.{Fixed, Sliding, Session}
use Rattle.wsm_semantics.specs.Query.{Datum, Query, SessionsByEvent, datum, Effect, effect_of, mark, verdict_on, selected, selection, selection_of}
use Rattle.wsm_semantics.specs.Sessions.{with_time, rising, sessions_of_rising, sessions, ends_by, starts_from, links, session_of}
use Rattle.wsm_semantics.specs.Panes.{of_key}
use Rattle.wsm_semantics.specs.ByKey.{at_turn}
use Rattle.wsm_semantics.specs.FromWatermark.{begun_at, Step, Stays, Goes, Times, whole, rest, LeavesOut, BeginAlike, is_beside, PartsNoSession, last_end, IsSettled, unparted_time, dropped_time, dropped_times}
use Rattle.wsm_semantics.proofs.Lists.{filter-all, all-each}
use Rattle.wsm_semantics.proofs.Decided.{less_from}
use Rattle.wsm_semantics.proofs.Each.{passed, all-append, all-both, map-map, filter-map, filter-append}
use Rattle.wsm_semantics.proofs.Effects.{by_effect, selection-with}
use Rattle.wsm_semantics.proofs.Sessions.{StartFrom, AreApart, starts_no_sooner, sessions-more, sessions_apart}
use Rattle.wsm_semantics.proofs.SessionOrder.{with_time-swap}
use Rattle.wsm_semantics.proofs.SessionPlaces.{times_of}
use Rattle.wsm_semantics.proofs.KeptTurns.{prompt}
use Rattle.wsm_semantics.proofs.KeptLaw.{gap_is_long}
use Rattle.wsm_semantics.proofs.WindowEnds.{ended}
use Rattle.wsm_semantics.proofs.StepTurns.{turn, turn_now}
use Rattle.wsm_semantics.proofs.LaterTurns.{Rooms, rooms_before, does_alike}
use Rattle.wsm_semantics.proofs.LaterSessions.{AreBeside, were_beside}

-- a time may stand behind others
rising-behind : (ps : List ℤ) (u : ℤ) (ts : List ℤ) → rising (ps ++ u ∷ ts) ≡ with_time u (rising (ps ++ ts))
rising-behind [] u ts = refl
rising-behind (p ∷ ps) u ts = ap (with_time p) (rising-behind ps u ts) ∙ with_time-swap p u (rising (ps ++ ts))

module _ (gap : ℤ) (long : pos 1 ≤ℤ gap) (x : ℤ) where
  without_some : (ps us ts : List ℤ) → AreBeside gap long x (sessions gap (ps ++ (us ++ ts))) → AreBeside gap long x (sessions gap (ps ++ ts))
  without_some ps [] ts h = h
  without_some ps (u ∷ us) ts h =
      without_some ps us ts (were_beside gap long x u (ps ++ (us ++ ts)) (subst (λ (rs : List ℤ). AreBeside gap long x (sessions_of_rising gap rs)) (rising-behind ps u (us ++ ts)) h))

times-append : (gap : ℤ) (key : ℕ) (ds es : List Datum) → times_of gap (ds ++ es) key ≡ times_of gap ds key ++ times_of gap es key
times-append gap key ds es =
    ap (map (λ (d : Datum). d.time)) (filter-append (λ d. nat_eq d.key key) ds es)
    ∙ map-append (λ (d : Datum). d.time) (of_key key ds) (of_key key es)

times_turned : (gap : ℤ) (key : ℕ) (f : ℕ → ℕ) (ds : List Datum) → times_of gap (map (at_turn f) ds) key ≡ times_of gap ds key
times_turned gap key f ds =
    ap (map (λ (d : Datum). d.time)) (filter-map (at_turn f) (λ d. nat_eq d.key key) ds)
    ∙ map-map (λ (d : Datum). d.time) (at_turn f) (of_key key ds)

module _ (q : Query) (start records : ℤ) (x : Times) (begun : BeginAlike q start records x [] [] 0) (gap : ℤ) (long : pos 1 ≤ℤ gap) (key : ℕ) where
  abbrev anew : Query
  anew = begun_at start records q

  abbrev Beside : List ℤ → Type 0
  Beside ts = AreBeside gap long (x key) (sessions gap ts)

  abbrev times : List Datum → List ℤ
  times ds = times_of gap ds key

  behind : (ps : List ℤ) (ds es : List Datum) → (ps ++ times ds) ++ times es ≡ ps ++ times (ds ++ es)
  behind ps ds es = append_assoc ps (times ds) (times es) ∙ ap (λ (ts : List ℤ). ps ++ ts) (sym (times-append gap key ds es))

  rest_beside : (steps : List Step) → LeavesOut x steps → Rooms q start records [] [] steps → (ps : List ℤ) →
      Beside (ps ++ times (selected q (whole steps []))) → Beside (ps ++ times (selected anew (rest steps [])))
  rest_beside [] out rooms ps h = h
  rest_beside (Stays e ∷ steps) out rooms ps h =
      let H : List Event = whole steps [] in
      let R : List Event = rest steps [] in
      let f : ℕ → ℕ = turn [] [] 0 steps in
      let same : times (selection_of q H e) ≡ times (selection_of anew R e) =
      ap (λ (y : Effect). times (selection y)) (does_alike q start records x [] [] 0 begun f steps out e rooms (turn_now [] [] 0 begun.turns steps))
      ∙ ap times (selection-with (at_turn f) (effect_of anew R e))
      ∙ times_turned gap key f (selection_of anew R e) in
      subst Beside (ap (λ (ts : List ℤ). (ps ++ ts) ++ times (selected anew R)) same ∙ behind ps (selection_of anew R e) (selected anew R))
      (rest_beside steps out (rooms_before q start records [] [] e steps rooms) (ps ++ times (selection_of q H e)) (subst Beside (sym (behind ps (selection_of q H e) (selected q H))) h))
  rest_beside (Goes e ∷ steps) out rooms ps h =
      let H : List Event = whole steps [] in
      rest_beside steps out.1 (rooms.0.1, rooms.1) ps
      (without_some gap long (x key) ps (times (selection_of q H e)) (times (selected q H)) (subst Beside (ap (λ (ts : List ℤ). ps ++ ts) (times-append gap key (selection_of q H e) (selected q H))) h))

pub rest_parted : (q : Query) → IsShape q.shape → (start records : ℤ) (x : Times) → BeginAlike q start records x [] [] 0 → (steps : List Step) → LeavesOut x steps → Rooms q start records [] [] steps →
    PartsNoSession q x (whole steps []) → PartsNoSession (begun_at start records q) x (rest steps [])
rest_parted q ok start records x begun steps out rooms none gap is key =
    rest_beside q start records x begun gap (gap_is_long q gap is ok) key steps out rooms [] (none gap is key)

-- ---- once the times are settled

above : (x t : ℤ) → int_lt x t ≡ true → (x +ℤ pos 1) ≤ℤ t
above x t h = grind (arith, ints)

below : (x t : ℤ) → (x +ℤ pos 1) ≤ℤ t → int_lt x t ≡ true
below x t h = grind (arith, ints)

not_over : (x gap t start end : ℤ) → (x +ℤ gap) ≤ℤ t → int_le end (x +ℤ gap) ≡ true → (int_lt start (t +ℤ gap) && int_lt t end) ≡ true → ⊥
not_over x gap t start end later ended linked = grind (arith, ints)

later_than : (x gap t : ℤ) → pos 1 ≤ℤ gap → (x +ℤ gap) ≤ℤ t → (x +ℤ pos 1) ≤ℤ t
later_than x gap t long h = omega (arith, ints)

in_time : (x gap l t m : ℤ) → ((x +ℤ gap) +ℤ l) ≤ℤ m → int_lt (t +ℤ l) m ≡ false → (x +ℤ gap) ≤ℤ t
in_time x gap l t m settled prompt = grind (arith, ints)

module _ (gap : ℤ) (long : pos 1 ≤ℤ gap) (x : ℤ) where
  -- a time so much later is linked to later sessions alone
  beyond_linked : (t : ℤ) → (x +ℤ gap) ≤ℤ t → (w : Window) → is_beside gap x w ≡ true → links gap t w ≡ true → (x +ℤ pos 1) ≤ℤ w.start
  beyond_linked t later w beside linked =
      ⊎_elim (λ begins. above x w.start begins)
      (λ ended. absurd (not_over x gap t w.start w.end later ended linked))
      (or_cases (int_lt x w.start) (int_le w.end (x +ℤ gap)) beside)

  beside_on : (t : ℤ) (ts : List ℤ) → (x +ℤ gap) ≤ℤ t → AreBeside gap long x (sessions gap ts) → AreBeside gap long x (sessions gap (t ∷ ts))
  beside_on t ts later h =
      let ws : List Window = sessions gap ts in
      let Beside : Window → Type 0 = λ w. is_beside gap x w ≡ true in
      let v : Window = session_of gap t (filter (links gap t) ws) in
      let from : StartFrom (x +ℤ pos 1) (filter (links gap t) ws) =
      all-both Beside (λ w. links gap t w ≡ true) (λ w. (x +ℤ pos 1) ≤ℤ w.start) (λ w a b. beyond_linked t later w a b) (filter (links gap t) ws) (filter-all Beside (links gap t) ws h) (passed (links gap t) ws) in
      let mine : is_beside gap x v ≡ true =
      or_left (int_lt x v.start) (int_le v.end (x +ℤ gap)) (below x v.start (starts_no_sooner gap long t (x +ℤ pos 1) (filter (links gap t) ws) (later_than x gap t long later) from)) in
      subst (AreBeside gap long x) (sym (sessions-more gap long t ts))
      (all-append Beside (filter (ends_by t) ws) (v ∷ filter (starts_from (t +ℤ gap)) ws) (filter-all Beside (ends_by t) ws h) (mine, filter-all Beside (starts_from (t +ℤ gap)) ws h))

-- then they part no session of what is still to come
pub parted_on : (q : Query) → IsShape q.shape → SessionsByEvent q → (x : Times) (past : List Event) (e : Event) → IsSettled q x (mark q past) → PartsNoSession q x past → PartsNoSession q x (e ∷ past)
parted_on q ok timely x past e settled none gap is key =
    by_effect q past (λ e y. AreBeside gap long (x key) (sessions gap (times_of gap (selection y ++ selected q past) key)))
    (λ k t vs taken _. entering k t vs taken)
    (λ o t _. none gap is key)
    (λ e _. none gap is key)
    e
  where
    long : pos 1 ≤ℤ gap
    long = gap_is_long q gap is ok

    entering : (k : ℕ) (t : ℤ) (vs : List Value) → verdict_on q past (Record (Some k) t vs) ≡ None → AreBeside gap long (x key) (sessions gap (times_of gap (datum (length past) (mark q past) k t vs ∷ selected q past) key))
    entering k t vs taken =
        elim (nat_eq k key) as (λ b. AreBeside gap long (x key) (sessions gap (map (λ (d : Datum). d.time) (cond b (datum (length past) (mark q past) k t vs ∷ of_key key (selected q past)) (of_key key (selected q past)))))) [
          | true ↦
              beside_on gap long (x key) t (times_of gap (selected q past) key)
              (in_time (x key) gap q.clock.lateness t (mark q past) (subst (λ (s : Shape). (last_end s (x key) +ℤ q.clock.lateness) ≤ℤ mark q past) is (settled key)) (prompt q past timely gap is k t vs taken))
              (none gap is key)
          | false ↦ none gap is key
        ]

-- ---- at any watermark

no_later : (t start : ℤ) → int_lt t start ≡ false → (start -ℤ pos 1) ≤ℤ t
no_later t start h = grind (arith, ints)

begins_past : (x start after : ℤ) → x ≡ start -ℤ pos 1 → start ≤ℤ after → int_lt x after ≡ true
begins_past x start after is h = grind (arith, ints)

ends_over : (gap x end : ℤ) → pos 1 ≤ℤ gap → end ≤ℤ (x +ℤ pos 1) → int_le end (x +ℤ gap) ≡ true
ends_over gap x end long h = grind (arith, ints)

right_before : (y x start : ℤ) → x ≡ start -ℤ pos 1 → y ≤ℤ start → y ≤ℤ (x +ℤ pos 1)
right_before y x start is h = omega (arith, ints)

after_end : (start gap end after : ℤ) → pos 1 ≤ℤ gap → (start +ℤ gap) ≤ℤ end → end ≤ℤ after → start ≤ℤ after
after_end start gap end after long lasts h = omega (arith, ints)

module _ (gap : ℤ) (long : pos 1 ≤ℤ gap) (t : ℤ) where
  abbrev x : List Window → ℤ
  x ws = unparted_time gap t ws

  pub no_later_than : (ws : List Window) → x ws ≤ℤ t
  no_later_than [] = omega (arith, ints)
  no_later_than (w ∷ ws) =
      elim (is_beside gap t w) as (λ b. is_beside gap t w ≡ b → cond b (x ws) (w.start -ℤ pos 1) ≤ℤ t) [
        | true ↦ λ _. no_later_than ws
        | false ↦ λ parted. no_later t w.start (not_left (int_lt t w.start) (int_le w.end (t +ℤ gap)) parted)
      ] refl

  -- it is the time, or right before one of the sessions
  pub no_sooner_than : (y : ℤ) (ws : List Window) → StartFrom y ws → (x ws ≡ t) ⊎ (y ≤ℤ (x ws +ℤ pos 1))
  no_sooner_than y [] from = inl refl
  no_sooner_than y (w ∷ ws) from =
      elim (is_beside gap t w) as (λ b. (cond b (x ws) (w.start -ℤ pos 1) ≡ t) ⊎ (y ≤ℤ (cond b (x ws) (w.start -ℤ pos 1) +ℤ pos 1))) [
        | true ↦ no_sooner_than y ws from.1
        | false ↦ inr (right_before y (w.start -ℤ pos 1) w.start refl from.0)
      ]

  still_apart : (w : Window) (ws : List Window) → StartFrom w.end ws → is_beside gap t w ≡ true → is_beside gap (x ws) w ≡ true
  still_apart w ws from beside =
      ⊎_elim
      (λ begins. or_left (int_lt (x ws) w.start) (int_le w.end (x ws +ℤ gap)) (less_from (x ws) t w.start (no_later_than ws) begins))
      (λ ended. ⊎_elim
      (λ same. or_right (int_lt (x ws) w.start) (int_le w.end (x ws +ℤ gap)) (ap (λ (s : ℤ). int_le w.end (s +ℤ gap)) same ∙ ended))
      (λ before. or_right (int_lt (x ws) w.start) (int_le w.end (x ws +ℤ gap)) (ends_over gap (x ws) w.end long before))
      (no_sooner_than w.end ws from))
      (or_cases (int_lt t w.start) (int_le w.end (t +ℤ gap)) beside)

  pub parts_no_session : (ws : List Window) → AreApart gap ws → AllByRecursion (λ w. is_beside gap (x ws) w ≡ true) ws
  parts_no_session [] apart = tt
  parts_no_session (w ∷ ws) apart =
      elim (is_beside gap t w) as (λ b. is_beside gap t w ≡ b → AllByRecursion (λ v. is_beside gap (cond b (x ws) (w.start -ℤ pos 1)) v ≡ true) (w ∷ ws)) [
        | true ↦ λ beside. (still_apart w ws apart.1 beside, parts_no_session ws apart.2)
        | false ↦ λ _.
            let y : ℤ = w.start -ℤ pos 1 in
            let later : (v : Window) → w.start ≤ℤ v.start → is_beside gap y v ≡ true = λ v from. or_left (int_lt y v.start) (int_le v.end (y +ℤ gap)) (begins_past y w.start v.start refl from) in (
              later w (itself w.start),
              all-each (λ v. w.end ≤ℤ v.start) (λ v. is_beside gap y v ≡ true) ws (λ v from. later v (after_end w.start gap w.end v.start long apart.0 from)) apart.1,
            )
      ] refl
    where
      itself : (s : ℤ) → s ≤ℤ s
      itself s = omega (arith, ints)

grid_settled : (end t m l : ℤ) → t ≡ m -ℤ l → end ≤ℤ t → (end +ℤ l) ≤ℤ m
grid_settled end t m l is h = omega (arith, ints)

session_settled : (x gap t m l : ℤ) → t ≡ m -ℤ l → x ≤ℤ (t -ℤ gap) → ((x +ℤ gap) +ℤ l) ≤ℤ m
session_settled x gap t m l is h = omega (arith, ints)

pub over_settled : (q : Query) → IsShape q.shape → (past : List Event) → IsSettled q (dropped_times q past) (mark q past)
over_settled q ok past key = of_shape q.shape ok where
  t : ℤ
  t = mark q past -ℤ q.clock.lateness

  ts : List ℤ
  ts = map (λ (d : Datum). d.time) (of_key key (selected q past))

  of_shape : (shape : Shape) → IsShape shape → (last_end shape (dropped_time shape t ts) +ℤ q.clock.lateness) ≤ℤ mark q past
  of_shape (Fixed size) ok = grid_settled (last_start size (first_start size size t -ℤ pos 1) +ℤ size) t (mark q past) q.clock.lateness refl (ended size size t ok.period_low)
  of_shape (Sliding size period) ok = grid_settled (last_start period (first_start size period t -ℤ pos 1) +ℤ size) t (mark q past) q.clock.lateness refl (ended size period t ok.period_low)
  of_shape (Session gap) ok = session_settled (unparted_time gap (t -ℤ gap) (sessions gap ts)) gap t (mark q past) q.clock.lateness refl (no_later_than gap ok.period_low (t -ℤ gap) (sessions gap ts))

pub over_parts_none : (q : Query) → IsShape q.shape → (past : List Event) → PartsNoSession q (dropped_times q past) past
over_parts_none q ok past gap is key =
    let t : ℤ = mark q past -ℤ q.clock.lateness in
    let ts : List ℤ = times_of gap (selected q past) key in
    let long : pos 1 ≤ℤ gap = gap_is_long q gap is ok in
    subst (λ (s : ℤ). AllByRecursion (λ w. is_beside gap s w ≡ true) (sessions gap ts)) (sym (ap (λ (s : Shape). dropped_time s t ts) is)) (parts_no_session gap long (t -ℤ gap) (sessions gap ts) (sessions_apart gap long ts))
