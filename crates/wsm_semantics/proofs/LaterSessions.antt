-- The sessions of some times that begin late enough are those of the later times alone: that begin a gap after some
-- time, or where it parts none, that begin after it.
use Rattle.std.proofs.Common.{◌≡◌, Bool, true, false, ◌||◌, cond, List, [], ◌∷◌, ◌++◌, ℤ, pos, ◌+ℤ◌, ◌≤ℤ◌, refl, sym, ap, subst, ◌∙◌, ⊎_elim, arith}
use Rattle.std.proofs.lemmas.Int.{ints, clamps}
use Rattle.std.proofs.lemmas.Bool.{or_left, or_right, or_cases}
use Rattle.std.specs.Prelude.{filter, int_le, int_lt}
use Rattle.std.specs.Int.{int_max, int_min}
use Rattle.std.specs.List.{AllByRecursion}
use Rattle.wsm_windows.specs.declared.window.Window.{Window}
use Rattle.wsm_windows.specs.Windows.{window}
use Rattle.wsm_semantics.specs.Sessions.{with_time, rising, with_earlier, sessions_of_rising, sessions, ends_by, starts_from, links, session_of, with_session}
use Rattle.wsm_semantics.specs.FromWatermark.{is_beside}
use Rattle.wsm_semantics.proofs.Lists.{all-each}
use Rattle.wsm_semantics.proofs.Each.{all_of, all-after, all-both}
use Rattle.wsm_semantics.proofs.Sessions.{AreRising, AreApart, is_rising, apart_rising, sessions-more}
use Rattle.wsm_semantics.proofs.SessionTimes.{sorted}
use Rattle.wsm_semantics.proofs.Given.{of_passed}

-- ---- later times, in order

module _ (x : ℤ) where
  abbrev pub is_past : ℤ → Bool
  is_past t = int_lt x t

  also_past : (t u : ℤ) → int_lt t u ≡ true → is_past t ≡ true → is_past u ≡ true
  also_past t u h k = grind (arith, ints)

  past_before : (u t : ℤ) → int_lt t u ≡ false → is_past u ≡ true → is_past t ≡ true
  past_before u t h k = grind (arith, ints)

  past-with_time : (t : ℤ) (us : List ℤ) → filter is_past (with_time t us) ≡ cond (is_past t) (with_time t (filter is_past us)) (filter is_past us)
  past-with_time t [] = refl
  past-with_time t (u ∷ us) =
      elim (int_lt t u) as (λ b. int_lt t u ≡ b → filter is_past (cond b (t ∷ u ∷ us) (u ∷ with_time t us)) ≡ cond (is_past t) (with_time t (filter is_past (u ∷ us))) (filter is_past (u ∷ us))) [
        | true ↦ λ sooner.
            elim (is_past t) as (λ c. is_past t ≡ c → cond c (t ∷ filter is_past (u ∷ us)) (filter is_past (u ∷ us)) ≡ cond c (with_time t (filter is_past (u ∷ us))) (filter is_past (u ∷ us))) [
              | true ↦ λ late.
                  let first : filter is_past (u ∷ us) ≡ u ∷ filter is_past us = ap (λ (b : Bool). cond b (u ∷ filter is_past us) (filter is_past us)) (also_past t u sooner late) in
                  ap (λ (vs : List ℤ). t ∷ vs) first
                  ∙ sym (ap (with_time t) first ∙ ap (λ (b : Bool). cond b (t ∷ u ∷ filter is_past us) (u ∷ with_time t (filter is_past us))) sooner)
              | false ↦ λ _. refl
            ] refl
        | false ↦ λ later.
            elim (is_past u) as (λ c. is_past u ≡ c → cond c (u ∷ filter is_past (with_time t us)) (filter is_past (with_time t us)) ≡ cond (is_past t) (with_time t (cond c (u ∷ filter is_past us) (filter is_past us))) (cond c (u ∷ filter is_past us) (filter is_past us))) [
              | true ↦ λ u_late.
                  let late : is_past t ≡ true = past_before u t later u_late in
                  ap (λ (vs : List ℤ). u ∷ vs) (past-with_time t us ∙ ap (λ (b : Bool). cond b (with_time t (filter is_past us)) (filter is_past us)) late)
                  ∙ sym (ap (λ (b : Bool). cond b (with_time t (u ∷ filter is_past us)) (u ∷ filter is_past us)) late
                  ∙ ap (λ (b : Bool). cond b (t ∷ u ∷ filter is_past us) (u ∷ with_time t (filter is_past us))) later)
              | false ↦ λ _. past-with_time t us
            ] refl
      ] refl

  past-rising : (ts : List ℤ) → filter is_past (rising ts) ≡ rising (filter is_past ts)
  past-rising [] = refl
  past-rising (t ∷ ts) =
      past-with_time t (rising ts)
      ∙ ap (λ (us : List ℤ). cond (is_past t) (with_time t us) us) (past-rising ts)
      ∙ elim (is_past t) as (λ b. cond b (with_time t (rising (filter is_past ts))) (rising (filter is_past ts)) ≡ rising (cond b (t ∷ filter is_past ts) (filter is_past ts))) [
        | true ↦ refl
        | false ↦ refl
      ]

  later_too : (t u : ℤ) → int_lt x t ≡ true → t ≤ℤ u → int_lt x u ≡ true
  later_too t u h k = grind (arith, ints)

  -- of rising times all are later where the first is
  all_past : (t : ℤ) (ts : List ℤ) → AreRising (t ∷ ts) → int_lt x t ≡ true → filter is_past ts ≡ ts
  all_past t ts rises late = all_of is_past ts (all-each (λ u. t ≤ℤ u) (λ u. is_past u ≡ true) ts (λ u after. later_too t u late after) rises.0)

-- ---- sessions that begin a gap after

module _ (gap : ℤ) (long : pos 1 ≤ℤ gap) (x : ℤ) where
  abbrev pub begins_late : Window → Bool
  begins_late w = int_le (x +ℤ gap) w.start

  too_early : (t end : ℤ) → int_lt x t ≡ false → begins_late (window t end) ≡ false
  too_early t end h = grind (arith, ints)

  too_near : (t : ℤ) (w : Window) → int_lt x t ≡ false → int_lt w.start (t +ℤ gap) ≡ true → begins_late w ≡ false
  too_near t w h k = grind (arith, ints)

  -- an early time begins none of them, and is linked to none
  late-with_earlier : (t : ℤ) → int_lt x t ≡ false → (ws : List Window) → filter begins_late (with_earlier gap t ws) ≡ filter begins_late ws
  late-with_earlier t h [] = ap (λ (b : Bool). cond b (window t (t +ℤ gap) ∷ []) []) (too_early t (t +ℤ gap) h)
  late-with_earlier t h (w ∷ ws) =
      elim (int_lt w.start (t +ℤ gap)) as (λ b. int_lt w.start (t +ℤ gap) ≡ b → filter begins_late (cond b (window t w.end ∷ ws) (window t (t +ℤ gap) ∷ w ∷ ws)) ≡ filter begins_late (w ∷ ws)) [
        | true ↦ λ near.
            ap (λ (b : Bool). cond b (window t w.end ∷ filter begins_late ws) (filter begins_late ws)) (too_early t w.end h)
            ∙ sym (ap (λ (b : Bool). cond b (w ∷ filter begins_late ws) (filter begins_late ws)) (too_near t w h near))
        | false ↦ λ far. ap (λ (b : Bool). cond b (window t (t +ℤ gap) ∷ filter begins_late (w ∷ ws)) (filter begins_late (w ∷ ws))) (too_early t (t +ℤ gap) h)
      ] refl

  late-rising : (ts : List ℤ) → AreRising ts → filter begins_late (sessions_of_rising gap ts) ≡ filter begins_late (sessions_of_rising gap (filter (is_past x) ts))
  late-rising [] rises = refl
  late-rising (t ∷ ts) rises =
      elim (int_lt x t) as (λ b. int_lt x t ≡ b → filter begins_late (sessions_of_rising gap (t ∷ ts)) ≡ filter begins_late (sessions_of_rising gap (cond b (t ∷ filter (is_past x) ts) (filter (is_past x) ts)))) [
        | true ↦ λ late. ap (λ (us : List ℤ). filter begins_late (sessions_of_rising gap (t ∷ us))) (sym (all_past x t ts rises late))
        | false ↦ λ early. late-with_earlier t early (sessions_of_rising gap ts) ∙ late-rising ts rises.1
      ] refl

  pub late-sessions : (ts : List ℤ) → filter begins_late (sessions gap ts) ≡ filter begins_late (sessions gap (filter (is_past x) ts))
  late-sessions ts = late-rising (rising ts) (is_rising ts) ∙ ap (λ (us : List ℤ). filter begins_late (sessions_of_rising gap us)) (past-rising x ts)

-- ---- sessions that a time doesn't part

module _ (gap : ℤ) (long : pos 1 ≤ℤ gap) (x : ℤ) where
  abbrev pub begins_beyond : Window → Bool
  begins_beyond w = int_lt x w.start

  abbrev pub AreBeside : List Window → Type 0
  AreBeside ws = AllByRecursion (λ w. is_beside gap x w ≡ true) ws

  ended : (t end : ℤ) → int_lt x t ≡ false → is_beside gap x (window t end) ≡ true → int_le end (x +ℤ gap) ≡ true
  ended t end h k = sym (ap (λ (b : Bool). b || int_le end (x +ℤ gap)) h) ∙ k

  not_beyond : (w : Window) → (w.start +ℤ gap) ≤ℤ w.end → int_le w.end (x +ℤ gap) ≡ true → begins_beyond w ≡ false
  not_beyond w lasts h = grind (arith, ints)

  beyond-with_earlier : (t : ℤ) → int_lt x t ≡ false → (ws : List Window) → AreApart gap ws → AreBeside (with_earlier gap t ws) → (filter begins_beyond (with_earlier gap t ws) ≡ filter begins_beyond ws) × AreBeside ws
  beyond-with_earlier t h [] apart beside = (ap (λ (b : Bool). cond b (window t (t +ℤ gap) ∷ []) []) h, tt)
  beyond-with_earlier t h (w ∷ ws) apart beside =
      elim (int_lt w.start (t +ℤ gap)) as (λ b. AreBeside (cond b (window t w.end ∷ ws) (window t (t +ℤ gap) ∷ w ∷ ws)) →
      (filter begins_beyond (cond b (window t w.end ∷ ws) (window t (t +ℤ gap) ∷ w ∷ ws)) ≡ filter begins_beyond (w ∷ ws)) × AreBeside (w ∷ ws)) [
        | true ↦ λ near.
            let over : int_le w.end (x +ℤ gap) ≡ true = ended t w.end h near.0 in (
              ap (λ (b : Bool). cond b (window t w.end ∷ filter begins_beyond ws) (filter begins_beyond ws)) h
                  ∙ sym (ap (λ (b : Bool). cond b (w ∷ filter begins_beyond ws) (filter begins_beyond ws)) (not_beyond w apart.0 over)),
              (or_right (int_lt x w.start) (int_le w.end (x +ℤ gap)) over, near.1),
            )
        | false ↦ λ far. (ap (λ (b : Bool). cond b (window t (t +ℤ gap) ∷ filter begins_beyond (w ∷ ws)) (filter begins_beyond (w ∷ ws))) h, far.1)
      ] beside

  beyond-rising : (ts : List ℤ) → AreRising ts → AreBeside (sessions_of_rising gap ts) → filter begins_beyond (sessions_of_rising gap ts) ≡ filter begins_beyond (sessions_of_rising gap (filter (is_past x) ts))
  beyond-rising [] rises beside = refl
  beyond-rising (t ∷ ts) rises beside =
      elim (int_lt x t) as (λ b. int_lt x t ≡ b → filter begins_beyond (sessions_of_rising gap (t ∷ ts)) ≡ filter begins_beyond (sessions_of_rising gap (cond b (t ∷ filter (is_past x) ts) (filter (is_past x) ts)))) [
        | true ↦ λ late. ap (λ (us : List ℤ). filter begins_beyond (sessions_of_rising gap (t ∷ us))) (sym (all_past x t ts rises late))
        | false ↦ λ early.
            let step = beyond-with_earlier t early (sessions_of_rising gap ts) (apart_rising gap long ts rises.1) beside in
            step.0 ∙ beyond-rising ts rises.1 step.1
      ] refl

  pub beyond-sessions : (ts : List ℤ) → AreBeside (sessions gap ts) → filter begins_beyond (sessions gap ts) ≡ filter begins_beyond (sessions gap (filter (is_past x) ts))
  beyond-sessions ts beside = beyond-rising (rising ts) (is_rising ts) beside ∙ ap (λ (us : List ℤ). filter begins_beyond (sessions_of_rising gap us)) (past-rising x ts)

  -- ---- nor did it before a time came

  -- the second is within the first
  abbrev IsIn : Window → Window → Type 0
  IsIn v w = (v.start ≤ℤ w.start) × (w.end ≤ℤ v.end)

  in_first : (w v : Window) → IsIn (window (int_min w.start v.start) (int_max w.end v.end)) w
  in_first w v = (omega (arith, ints, clamps), omega (arith, ints, clamps))

  in_second : (w v u : Window) → IsIn v u → IsIn (window (int_min w.start v.start) (int_max w.end v.end)) u
  in_second w v u h =
      let a : v.start ≤ℤ u.start = h.0 in
      let b : u.end ≤ℤ v.end = h.1 in
      (omega (arith, ints, clamps), omega (arith, ints, clamps))

  each_in : (t : ℤ) (ws : List Window) → AllByRecursion (IsIn (session_of gap t ws)) ws
  each_in t [] = tt
  each_in t (w ∷ ws) = (in_first w (session_of gap t ws), all-each (IsIn (session_of gap t ws)) (IsIn (session_of gap t (w ∷ ws))) ws (λ u h. in_second w (session_of gap t ws) u h) (each_in t ws))

  begins_in : (s t : ℤ) → s ≤ℤ t → int_lt x s ≡ true → int_lt x t ≡ true
  begins_in s t h k = grind (arith, ints)

  ends_in : (s t : ℤ) → s ≤ℤ t → int_le t (x +ℤ gap) ≡ true → int_le s (x +ℤ gap) ≡ true
  ends_in s t h k = grind (arith, ints)

  still_beside : (v w : Window) → IsIn v w → is_beside gap x v ≡ true → is_beside gap x w ≡ true
  still_beside v w h k =
      ⊎_elim
      (λ begins. or_left (int_lt x w.start) (int_le w.end (x +ℤ gap)) (begins_in v.start w.start h.0 begins))
      (λ ends. or_right (int_lt x w.start) (int_le w.end (x +ℤ gap)) (ends_in w.end v.end h.1 ends))
      (or_cases (int_lt x v.start) (int_le v.end (x +ℤ gap)) k)

  abbrev IsBeside : Window → Type 0
  IsBeside w = is_beside gap x w ≡ true

  pub were_beside : (t : ℤ) (ts : List ℤ) → AreBeside (sessions gap (t ∷ ts)) → AreBeside (sessions gap ts)
  were_beside t ts h =
      let ws : List Window = sessions gap ts in
      let v : Window = session_of gap t (filter (links gap t) ws) in
      let now : AreBeside (with_session gap t ws) = subst AreBeside (sessions-more gap long t ts) h in
      let after : AreBeside (v ∷ filter (starts_from (t +ℤ gap)) ws) = all-after IsBeside (filter (ends_by t) ws) (v ∷ filter (starts_from (t +ℤ gap)) ws) now in
      let one : AllByRecursion (λ w. ends_by t w ≡ true → IsBeside w) ws = of_passed IsBeside (ends_by t) ws (all-front (filter (ends_by t) ws) (v ∷ filter (starts_from (t +ℤ gap)) ws) now) in
      let two : AllByRecursion (λ w. links gap t w ≡ true → IsBeside w) ws =
      of_passed IsBeside (links gap t) ws (all-each (IsIn v) IsBeside (filter (links gap t) ws) (λ w inside. still_beside v w inside after.0) (each_in t (filter (links gap t) ws))) in
      let three : AllByRecursion (λ w. starts_from (t +ℤ gap) w ≡ true → IsBeside w) ws = of_passed IsBeside (starts_from (t +ℤ gap)) ws after.1 in
      all-both (λ w. ends_by t w ≡ true → IsBeside w) (λ w. (links gap t w || starts_from (t +ℤ gap) w) ≡ true → IsBeside w) IsBeside (λ w a b. either (ends_by t w) (links gap t w || starts_from (t +ℤ gap) w) (IsBeside w) a b (sorted gap t w)) ws one
      (all-both (λ w. links gap t w ≡ true → IsBeside w) (λ w. starts_from (t +ℤ gap) w ≡ true → IsBeside w) (λ w. (links gap t w || starts_from (t +ℤ gap) w) ≡ true → IsBeside w)
      (λ w a b c. either (links gap t w) (starts_from (t +ℤ gap) w) (IsBeside w) a b c) ws two three)
    where
      all-front : (xs ys : List Window) → AreBeside (xs ++ ys) → AreBeside xs
      all-front [] ys h = tt
      all-front (w ∷ xs) ys h = (h.0, all-front xs ys h.1)

      either : (a b : Bool) (P : Type 0) → (a ≡ true → P) → (b ≡ true → P) → (a || b) ≡ true → P
      either true b P f g h = f refl
      either false b P f g h = g h
