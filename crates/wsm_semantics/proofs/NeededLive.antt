-- The selected records whose times come after those right before the first live windows of their keys are those that stand in a
-- window, or a session, that is live.
use Rattle.std.proofs.Common.{◌≡◌, ℕ, Bool, true, false, ◌&&◌, ◌||◌, cond, List, [], ◌∷◌, map, ℤ, pos, ◌+ℤ◌, ◌-ℤ◌, ◌≤ℤ◌, ◌<ℤ◌, refl, sym, ap, subst, ◌∙◌, ⊎_elim, arith}
use Rattle.std.proofs.lemmas.Int.{ints, clamps}
use Rattle.std.proofs.lemmas.Bool.{true≢false, or_cases, and_parts}
use Rattle.std.proofs.lemmas.List.Elements.{All-contains, All-contains_itself, All-from_recursion, recursion_from_All}
use Rattle.std.specs.Prelude.{Contains, filter, int_le, int_lt, nat_eq}
use Rattle.std.specs.List.{AllByRecursion, list_any}
use Rattle.std.specs.Int.{int_max}
use Rattle.wsm_record.specs.Event.{Event}
use Rattle.wsm_windows.specs.declared.window.Window.{Window}
use Rattle.wsm_windows.specs.declared.window.Shape.{Shape}
use Rattle.wsm_windows.specs.declared.window.Shape.TheVariants.{Fixed, Sliding, Session}
use Rattle.wsm_windows.specs.Windows.{IsShape, IsWindowOf, IsWindowOfShape, window, has_inside, last_start, first_start}
use Rattle.wsm_windows.specs.Life.{is_live, live_windows_of}
use Rattle.wsm_windows.proofs.LiveWindows.{exactly_live}
use Rattle.wsm_admission.proofs.SourceMarks.{watermark_rises}
use Rattle.wsm_semantics.specs.Query.{Datum, Query, mark, selected, selection, selection_of}
use Rattle.wsm_semantics.specs.Sessions.{sessions, ends_by, starts_from, links, session_of}
use Rattle.wsm_semantics.specs.Panes.{of_key, windows_among}
use Rattle.wsm_semantics.specs.FromWatermark.{is_beside, unparted_time, dropped_time}
use Rattle.wsm_semantics.specs.Needed.{IsOfLive}
use Rattle.wsm_semantics.proofs.Lists.{filter-all, all-each}
use Rattle.wsm_semantics.proofs.Decided.{less_up_to}
use Rattle.wsm_semantics.proofs.Each.{itself, all-append, all-both, passed, same_answers, some_of, each_fails, list_any-more, list_any-filter}
use Rattle.wsm_semantics.proofs.Effects.{by_effect}
use Rattle.wsm_semantics.proofs.Sessions.{StartFrom, AreApart, holds_time, sessions-more, sessions_apart}
use Rattle.wsm_semantics.proofs.SessionTimes.{inside_is, covered, inside_of_joined}
use Rattle.wsm_semantics.proofs.WindowEnds.{begins_by, begins_from, last_window, first_window}
use Rattle.wsm_semantics.proofs.LaterParts.{parts_no_session, no_later_than, no_sooner_than}

-- ---- windows of a grid

live_sooner : (m n end l : ℤ) → m ≤ℤ n → int_lt n (end +ℤ l) ≡ true → m <ℤ (end +ℤ l)
live_sooner m n end l h k = grind (arith, ints)

live_from : (m l size start first : ℤ) → first ≤ℤ start → ((m -ℤ l) -ℤ size) <ℤ first → int_lt m ((start +ℤ size) +ℤ l) ≡ true
live_from m l size start first h k = grind (arith, ints)

until_end : (t start period size : ℤ) → t <ℤ (start +ℤ period) → period ≤ℤ size → t <ℤ (start +ℤ size)
until_end t start period size h k = omega (arith, ints)

ends_after : (m l size start end : ℤ) → end ≡ start +ℤ size → int_lt m (end +ℤ l) ≡ true → ((m -ℤ l) -ℤ size) <ℤ start
ends_after m l size start end is live = grind (arith, ints)

after_first : (first t : ℤ) → int_lt (first -ℤ pos 1) t ≡ true → first ≤ℤ t
after_first first t h = grind (arith, ints)

first_after : (first start t : ℤ) → first ≤ℤ start → start ≤ℤ t → int_lt (first -ℤ pos 1) t ≡ true
first_after first start t h k = grind (arith, ints)

pub any_of : {A : Type 0} (p : A → Bool) (xs : List A) (x : A) → Contains xs x → p x ≡ true → list_any p xs ≡ true
any_of p xs x there passes =
    elim (list_any p xs) as (λ b. list_any p xs ≡ b → b ≡ true) [
      | true ↦ λ _. refl
      | false ↦ λ none. absurd (true≢false (sym passes ∙ All-contains (λ y. p y ≡ false) xs x (All-from_recursion (λ y. p y ≡ false) xs (each_fails p xs none)) there))
    ] refl

module _ (shape : Shape) (size period : ℤ) (ok : IsShape shape) (long : pos 1 ≤ℤ period) (longer : period ≤ℤ size) (t l before m : ℤ) (risen : before ≤ℤ m) where
  abbrev first : ℤ
  first = first_start size period (m -ℤ l)

  abbrev ws : List Window
  ws = live_windows_of shape t l before

  module _ (from_grid : (w : Window) → IsWindowOf size period t w → IsWindowOfShape shape t w) (on_grid : (w : Window) → IsWindowOfShape shape t w → IsWindowOf size period t w) where
    -- the last window that begins by the time
    lives : int_lt (first -ℤ pos 1) t ≡ true → list_any (λ w. is_live w l m) ws ≡ true
    lives h =
        let k = last_window period t long in
        let start : ℤ = last_start period t in
        let w : Window = window start (start +ℤ size) in
        let f = first_window size period (m -ℤ l) long in
        let above : first ≤ℤ start = subst (λ (s : ℤ). s ≤ℤ start) (sym f.1) (begins_by period f.0 t long (subst (λ (s : ℤ). s ≤ℤ t) f.1 (after_first first t h))) in
        let live : int_lt m ((start +ℤ size) +ℤ l) ≡ true = live_from m l size start first above f.2 in
        let one : IsWindowOf size period t w = record { k = k.0; start = k.1; end = refl; from = k.2; until = until_end t start period size k.3 longer } in
        any_of (λ v. is_live v l m) ws w ((exactly_live shape t l before ws ok refl w).1 (record { of_time = from_grid w one; live = live_sooner before m (start +ℤ size) l risen live })) live

    later : list_any (λ w. is_live w l m) ws ≡ true → int_lt (first -ℤ pos 1) t ≡ true
    later h =
        let (w, there, live) = some_of (Contains ws) (λ v. is_live v l m) ws (recursion_from_All (Contains ws) ws (All-contains_itself ws)) h in
        let one : IsWindowOf size period t w = on_grid w ((exactly_live shape t l before ws ok refl w).0 there).of_time in
        let above : ((m -ℤ l) -ℤ size) <ℤ w.start = ends_after m l size w.start w.end one.end live in
        first_after first w.start t
        (subst (λ (s : ℤ). first ≤ℤ s) (sym one.start) (begins_from period one.k ((m -ℤ l) -ℤ size) long (subst (λ (s : ℤ). ((m -ℤ l) -ℤ size) <ℤ s) one.start above)))
        one.from

    pub grid_lives : int_lt (first -ℤ pos 1) t ≡ list_any (λ w. is_live w l m) ws
    grid_lives = same_answers _ _ lives later

-- ---- sessions

module _ (gap : ℤ) (long : pos 1 ≤ℤ gap) where
  longer_than : (u a b : ℤ) → u ≤ℤ a → u ≤ℤ int_max a b
  longer_than u a b h = omega (arith, ints, clamps)

  or_longer : (u a b : ℤ) → u ≤ℤ b → u ≤ℤ int_max a b
  or_longer u a b h = omega (arith, ints, clamps)

  -- a session that a time lies in lasts a gap past it
  abbrev pub Lasts : ℤ → Window → Type 0
  Lasts u w = has_inside u w ≡ true → (u +ℤ gap) ≤ℤ w.end

  joined_lasts : (t u : ℤ) (ws : List Window) → AllByRecursion (Lasts u) ws → list_any (has_inside u) ws ≡ true → (u +ℤ gap) ≤ℤ (session_of gap t ws).end
  joined_lasts t u [] each h = absurd (true≢false (sym h))
  joined_lasts t u (w ∷ ws) each h =
      ⊎_elim
      (λ here. longer_than (u +ℤ gap) w.end (session_of gap t ws).end (each.0 here))
      (λ there. or_longer (u +ℤ gap) w.end (session_of gap t ws).end (joined_lasts t u ws each.1 there))
      (or_cases (has_inside u w) (list_any (has_inside u) ws) h)

  ended_by : (t : ℤ) (w : Window) → ends_by t w ≡ true → w.end ≤ℤ t
  ended_by t w h = grind (arith, ints)

  begun_from : (t : ℤ) (w : Window) → starts_from t w ≡ true → t ≤ℤ w.start
  begun_from t w h = grind (arith, ints)

  past_end : (t end : ℤ) → end ≤ℤ t → t <ℤ end → ⊥
  past_end t end h k = omega (arith, ints)

  before_start : (t start : ℤ) → pos 1 ≤ℤ gap → (t +ℤ gap) ≤ℤ start → start ≤ℤ t → ⊥
  before_start t start l h k = omega (arith, ints)

  not_before : (t : ℤ) (w : Window) → ends_by t w ≡ true → Lasts t w
  not_before t w ended inside = absurd (past_end t w.end (ended_by t w ended) (inside_is t w inside).1)

  not_after : (t : ℤ) (w : Window) → starts_from (t +ℤ gap) w ≡ true → Lasts t w
  not_after t w begun inside = absurd (before_start t w.start long (begun_from (t +ℤ gap) w begun) (inside_is t w inside).0)

  pub all_last : (ts : List ℤ) → AllByRecursion (λ u. AllByRecursion (Lasts u) (sessions gap ts)) ts
  all_last [] = tt
  all_last (t ∷ ts) =
      let ws : List Window = sessions gap ts in
      let v : Window = session_of gap t (filter (links gap t) ws) in
      let more = sym (sessions-more gap long t ts) in (
        subst (AllByRecursion (Lasts t)) more
            (all-append (Lasts t) (filter (ends_by t) ws) (v ∷ filter (starts_from (t +ℤ gap)) ws)
            (all-each (λ w. ends_by t w ≡ true) (Lasts t) (filter (ends_by t) ws) (not_before t) (passed (ends_by t) ws))
            ((λ _. (holds_time gap long t (filter (links gap t) ws)).1), all-each (λ w. starts_from (t +ℤ gap) w ≡ true) (Lasts t) (filter (starts_from (t +ℤ gap)) ws) (not_after t) (passed (starts_from (t +ℤ gap)) ws))),
        all-both (λ u. AllByRecursion (Lasts u) ws) (λ u. list_any (has_inside u) ws ≡ true) (λ u. AllByRecursion (Lasts u) (sessions gap (t ∷ ts)))
            (λ u each inside.
            subst (AllByRecursion (Lasts u)) more
            (all-append (Lasts u) (filter (ends_by t) ws) (v ∷ filter (starts_from (t +ℤ gap)) ws)
            (filter-all (Lasts u) (ends_by t) ws each)
            ((λ in_v. joined_lasts t u (filter (links gap t) ws) (filter-all (Lasts u) (links gap t) ws each) (sym (inside_of_joined gap long t u ts inside) ∙ in_v)), filter-all (Lasts u) (starts_from (t +ℤ gap)) ws each)))
            ts (all_last ts) (covered gap long ts),
      )

  -- ---- which are live

  module _ (t0 : ℤ) where
    abbrev x : List Window → ℤ
    x ws = unparted_time gap t0 ws

    abbrev LivesLater : ℤ → Window → Type 0
    LivesLater y w = int_lt y w.start ≡ true → (t0 +ℤ gap) <ℤ w.end

    begun_late : (start end : ℤ) → (start +ℤ gap) ≤ℤ end → int_lt t0 start ≡ true → (t0 +ℤ gap) <ℤ end
    begun_late start end lasts h = grind (arith, ints)

    too_soon : (y start end : ℤ) → pos 1 ≤ℤ gap → (start +ℤ gap) ≤ℤ end → end ≤ℤ (y +ℤ pos 1) → int_lt y start ≡ true → ⊥
    too_soon y start end l lasts h k = grind (arith, ints)

    is_parted : (start end : ℤ) → (int_lt t0 start || int_le end (t0 +ℤ gap)) ≡ false → (t0 +ℤ gap) <ℤ end
    is_parted start end h = grind (arith, ints)

    further : (e start end : ℤ) → pos 1 ≤ℤ gap → (t0 +ℤ gap) <ℤ e → e ≤ℤ start → (start +ℤ gap) ≤ℤ end → (t0 +ℤ gap) <ℤ end
    further e start end l h k lasts = omega (arith, ints)

    all_live : (y e : ℤ) (ws : List Window) → (t0 +ℤ gap) <ℤ e → StartFrom e ws → AreApart gap ws → AllByRecursion (LivesLater y) ws
    all_live y e [] late from apart = tt
    all_live y e (w ∷ ws) late from apart = ((λ _. further e w.start w.end long late from.0 apart.0), all_live y e ws late from.1 apart.2)

    live_later : (ws : List Window) → AreApart gap ws → AllByRecursion (LivesLater (x ws)) ws
    live_later [] apart = tt
    live_later (w ∷ ws) apart =
        elim (is_beside gap t0 w) as (λ b. is_beside gap t0 w ≡ b → AllByRecursion (LivesLater (cond b (x ws) (w.start -ℤ pos 1))) (w ∷ ws)) [
          | true ↦ λ _. (
            (λ begins. ⊎_elim
                (λ same. begun_late w.start w.end apart.0 (subst (λ (y : ℤ). int_lt y w.start ≡ true) same begins))
                (λ sooner. absurd (too_soon (x ws) w.start w.end long apart.0 sooner begins))
                (no_sooner_than gap long t0 w.end ws apart.1)),
            live_later ws apart.2,
          )
          | false ↦ λ parted. let late = is_parted w.start w.end parted in ((λ _. late), all_live (w.start -ℤ pos 1) w.end ws late apart.1 apart.2)
        ] refl

    ended_soon : (u y end : ℤ) → (u +ℤ gap) ≤ℤ end → int_lt y u ≡ true → int_le end (y +ℤ gap) ≡ true → ⊥
    ended_soon u y end lasts h k = grind (arith, ints)

    is_now : (l m end : ℤ) → t0 ≡ (m -ℤ l) -ℤ gap → (t0 +ℤ gap) <ℤ end → int_lt m (end +ℤ l) ≡ true
    is_now l m end is h = grind (arith, ints)

    not_ended : (l m y end : ℤ) → t0 ≡ (m -ℤ l) -ℤ gap → y ≤ℤ t0 → int_lt m (end +ℤ l) ≡ true → int_le end (y +ℤ gap) ≡ true → ⊥
    not_ended l m y end is low live h = grind (arith, ints)

    pub sessions_live : (l m : ℤ) → t0 ≡ (m -ℤ l) -ℤ gap → (ts : List ℤ) →
        AllByRecursion (λ u. int_lt (x (sessions gap ts)) u ≡ list_any (λ w. is_live w l m) (filter (has_inside u) (sessions gap ts))) ts
    sessions_live l m is ts =
        let ws : List Window = sessions gap ts in
        let y : ℤ = x ws in
        let apart : AreApart gap ws = sessions_apart gap long ts in
        let beside : AllByRecursion (λ w. is_beside gap y w ≡ true) ws = parts_no_session gap long t0 ws apart in
        let live : AllByRecursion (LivesLater y) ws = live_later ws apart in
        all-both (λ u. AllByRecursion (Lasts u) ws) (λ u. list_any (has_inside u) ws ≡ true) (λ u. int_lt y u ≡ list_any (λ w. is_live w l m) (filter (has_inside u) ws))
        (λ u lasts inside.
        let Known : Window → Type 0 = λ w. (is_beside gap y w ≡ true) × LivesLater y w × Lasts u w in
        let known : AllByRecursion Known ws =
        all-both (λ w. is_beside gap y w ≡ true) (λ w. LivesLater y w × Lasts u w) Known (λ w a b. (a, b.0, b.1)) ws beside (all-both (LivesLater y) (Lasts u) (λ w. LivesLater y w × Lasts u w) (λ w a b. (a, b)) ws live lasts) in
        same_answers _ _
        (λ later.
        list_any-filter (λ w. is_live w l m) (has_inside u) ws
        ∙ list_any-more Known (has_inside u) (λ w. has_inside u w && is_live w l m)
        (λ w k h.
        ap (λ (b : Bool). b && is_live w l m) h
        ∙ ⊎_elim
        (λ begins. is_now l m w.end is (k.1 begins))
        (λ ended. absurd (ended_soon u y w.end (k.2 h) later ended))
        (or_cases (int_lt y w.start) (int_le w.end (y +ℤ gap)) k.0))
        ws known inside)
        (λ some.
        let (w, k, h) = some_of Known (λ w. has_inside u w && is_live w l m) ws known (sym (list_any-filter (λ w. is_live w l m) (has_inside u) ws) ∙ some) in
        let both = and_parts (has_inside u w) (is_live w l m) h in
        ⊎_elim
        (λ begins. less_up_to y w.start u begins (inside_is u w both.0).0)
        (λ ended. absurd (not_ended l m y w.end is (no_later_than gap long t0 ws) both.1 ended))
        (or_cases (int_lt y w.start) (int_le w.end (y +ℤ gap)) k.0)))
        ts (all_last ts) (covered gap long ts)

-- ---- selected records

up_to : (a b c : ℤ) → a ≤ℤ b → b ≤ℤ c → a ≤ℤ c
up_to a b c h k = omega (arith, ints)

-- the watermark before a record's turn is no greater than that of now
marked : (q : Query) (past : List Event) → AllByRecursion (λ d. d.mark ≤ℤ mark q past) (selected q past)
marked q [] = tt
marked q (e ∷ past) =
    let AtMost : ℤ → Datum → Type 0 = λ m d. d.mark ≤ℤ m in
    let rises = watermark_rises q.clock q.declared past e in
    all-append (AtMost (mark q (e ∷ past))) (selection_of q past e) (selected q past)
    (by_effect q past (λ e y. mark q past ≤ℤ mark q (e ∷ past) → AllByRecursion (AtMost (mark q (e ∷ past))) (selection y)) (λ k t vs _ _ h. (h, tt)) (λ o t _ _. tt) (λ e _ _. tt) e rises)
    (all-each (AtMost (mark q past)) (AtMost (mark q (e ∷ past))) (selected q past) (λ d h. up_to d.mark (mark q past) (mark q (e ∷ past)) h rises) (marked q past))

-- the times of a key, record by record
pub of_times : (P : ℤ → Type 0) (key : ℕ) (ds : List Datum) → AllByRecursion P (map (λ d. d.time) (of_key key ds)) → AllByRecursion (λ d. nat_eq d.key key ≡ true → P d.time) ds
of_times P key [] each = tt
of_times P key (d ∷ ds) each =
    elim (nat_eq d.key key) as (λ b. AllByRecursion P (map (λ (e : Datum). e.time) (cond b (d ∷ of_key key ds) (of_key key ds))) → (b ≡ true → P d.time) × AllByRecursion (λ e. nat_eq e.key key ≡ true → P e.time) ds) [
      | true ↦ λ each. ((λ _. each.0), of_times P key ds each.1)
      | false ↦ λ each. ((λ h. absurd (true≢false (sym h))), of_times P key ds each)
    ] each

pub each_own : (Q : Datum → Datum → Type 0) (ds : List Datum) → ((d : Datum) → AllByRecursion (Q d) ds) → AllByRecursion (λ d. Q d d) ds
each_own Q [] f = tt
each_own Q (d ∷ ds) f = ((f d).0, each_own Q ds (λ e. (f e).1))

pub each_of_live : (q : Query) → IsShape q.shape → (past : List Event) → AllByRecursion (IsOfLive q past) (selected q past)
each_of_live q ok past = of_shape q.shape ok where
  m : ℤ
  m = mark q past

  l : ℤ
  l = q.clock.lateness

  ds : List Datum
  ds = selected q past

  times : ℕ → List ℤ
  times key = map (λ (d : Datum). d.time) (of_key key ds)

  Exactly : Shape → Datum → Type 0
  Exactly shape d = int_lt (dropped_time shape (m -ℤ l) (times d.key)) d.time ≡ list_any (λ w. is_live w l m) (windows_among shape l ds d)

  of_shape : (shape : Shape) → IsShape shape → AllByRecursion (Exactly shape) ds
  of_shape (Fixed size) ok = all-each (λ d. d.mark ≤ℤ m) (Exactly (Fixed size)) ds (λ d h. grid_lives (Fixed size) size size ok ok.period_low ok.period_high d.time l d.mark m h (λ w i. i) (λ w i. i)) (marked q past)
  of_shape (Sliding size period) ok = all-each (λ d. d.mark ≤ℤ m) (Exactly (Sliding size period)) ds (λ d h. grid_lives (Sliding size period) size period ok ok.period_low ok.period_high d.time l d.mark m h (λ w i. i) (λ w i. i)) (marked q past)
  of_shape (Session gap) ok =
      let P : ℕ → ℤ → Type 0 = λ key u. int_lt (unparted_time gap ((m -ℤ l) -ℤ gap) (sessions gap (times key))) u ≡ list_any (λ w. is_live w l m) (filter (has_inside u) (sessions gap (times key))) in
      all-each (λ d. nat_eq d.key d.key ≡ true → P d.key d.time) (Exactly (Session gap)) ds (λ d h. h (itself d.key))
      (each_own (λ d e. nat_eq e.key d.key ≡ true → P d.key e.time) ds (λ d. of_times (P d.key) d.key ds (sessions_live gap ok.period_low ((m -ℤ l) -ℤ gap) l m refl (times d.key))))
