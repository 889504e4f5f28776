-- The marks of the sources, and the least of them, over a history.
use Rattle.std.proofs.Common.{◌≡◌, ◌≤◌, ◌<◌, ◌+◌, ℕ, zero, suc, Bool, true, false, ◌&&◌, cond, List, [], ◌∷◌, map, replicate, ℤ, ◌≤ℤ◌, ◌<ℤ◌, Option, Some, None, inl, inr, refl, sym, ap, subst, ◌∙◌, arith}
use Rattle.std.proofs.lemmas.Int.{ints}
use Rattle.std.proofs.lemmas.Bool.{cases_lt}
use Rattle.std.proofs.lemmas.Bool.Decides.{nat_tests}
use Rattle.std.proofs.lemmas.List.FromFn.{length-map-range_with_len}
use Rattle.std.proofs.lemmas.Option.{slice_get_past}
use Rattle.std.specs.Prelude.{int_le, nat_eq, not, ◌||◌, is_some, if◌then◌else◌, slice_get, slice_set}
use Rattle.std.specs.List.{fold, range_with_len, filter, list_any}
use Rattle.std.specs.Iterator.{YieldsFirst}
use Rattle.std.specs.Int.{int_max, int_min}
use Rattle.wsm_record.specs.Event.{Event, Record, Watermark}
use Rattle.wsm_record.specs.Schema.{Declared, source_count}
use Rattle.wsm_windows.specs.declared.window.Window.{Window}
use Rattle.wsm_windows.specs.declared.window.Shape.{Shape}
use Rattle.wsm_windows.specs.Windows.{windows_of_shape}
use Rattle.wsm_windows.specs.Life.{is_live, live_windows_of}
use Rattle.wsm_admission.specs.declared.clock.Clock.{Clock}
use Rattle.wsm_admission.specs.declared.verdict.Refusal.{Refusal}
use Rattle.wsm_admission.specs.declared.verdict.Refusal.TheVariants as refusal
use Rattle.wsm_admission.specs.Clock.{is_late_by, is_time, is_source, source_mark, marks_of, least, watermark_of, mark_at, watermark_refusal}
use Rattle.wsm_admission.specs.Admission.{marks_with}

-- ---- lists of so many marks

min_rises : (a b x y : ℤ) → a ≤ℤ x → b ≤ℤ y → int_min a b ≤ℤ int_min x y
min_rises a b x y h k = grind (arith, ints)

module _ (f g : ℕ → ℤ) where
  fold_rises : (xs : List ℕ) (a b : ℤ) → a ≤ℤ b → ((s : ℕ) → f s ≤ℤ g s) → fold int_min a (map f xs) ≤ℤ fold int_min b (map g xs)
  fold_rises [] a b h k = h
  fold_rises (s ∷ xs) a b h k = fold_rises xs (int_min a (f s)) (int_min b (g s)) (min_rises a (f s) b (g s) h (k s)) k

  -- the least of greater marks is greater
  pub least_rises : (xs : List ℕ) → ((s : ℕ) → f s ≤ℤ g s) → least (map f xs) ≤ℤ least (map g xs)
  least_rises [] k = omega (arith, ints)
  least_rises (s ∷ xs) k = fold_rises xs (f s) (g s) (k s) k

  map_same : (a n : ℕ) → ((s : ℕ) → a ≤ s → s < a + n → f s ≡ g s) → map f (range_with_len a n) ≡ map g (range_with_len a n)
  map_same a zero k = refl
  map_same a (suc n) k = λ i. k a (omega arith) (omega arith) i ∷ map_same (a + 1) n (λ s l h. k s (omega arith) (omega arith)) i

  -- one mark is set
  set_of : (a n k s : ℕ) (t : ℤ) → a + k ≡ s → g s ≡ t → ((j : ℕ) → (j ≡ s → ⊥) → f j ≡ g j) → slice_set (map f (range_with_len a n)) k t ≡ map g (range_with_len a n)
  set_of a zero k s t e is same = refl
  set_of a (suc n) zero s t e is same =
      let here : s ≡ a = omega arith in
      λ i. (sym is ∙ ap g here) i ∷ map_same (a + 1) n (λ j l h. same j (λ k. omega arith)) i
  set_of a (suc n) (suc k) s t e is same = λ i. same a (λ j. omega arith) i ∷ set_of (a + 1) n k s t (omega arith) is same i

get_of : (f : ℕ → ℤ) (a n i s : ℕ) → i < n → a + i ≡ s → slice_get (map f (range_with_len a n)) i ≡ Some (f s)
get_of f a zero i s h e = absurd (omega arith)
get_of f a (suc n) zero s h e = let here : a ≡ s = omega arith in ap (λ (x : ℕ). Some (f x)) here
get_of f a (suc n) (suc i) s h e = get_of f (a + 1) n i s (omega arith) (omega arith)

pub all_start : (x : ℤ) (a n : ℕ) → map (λ s. x) (range_with_len a n) ≡ replicate n x
all_start x a zero = refl
all_start x a (suc n) = ap (λ xs. x ∷ xs) (all_start x (a + 1) n)

fold_alike : (x : ℤ) (n : ℕ) → fold int_min x (replicate n x) ≡ x
fold_alike x zero = refl
fold_alike x (suc n) = let same : int_min x x ≡ x = grind (arith, ints) in ap (λ (y : ℤ). fold int_min y (replicate n x)) same ∙ fold_alike x n

-- the least of marks that are all alike
pub least_alike : (x : ℤ) (n : ℕ) → 1 ≤ n → least (replicate n x) ≡ x
least_alike x zero h = absurd (omega arith)
least_alike x (suc n) h = fold_alike x n

-- ---- over a history

module _ (c : Clock) (declared : Declared) (past : List Event) where
  pub mark_of_source : (s : ℕ) → s < source_count declared → mark_at (marks_of c declared past) (Some s) ≡ Some (source_mark c s past)
  mark_of_source s h = get_of (λ s. source_mark c s past) 0 (source_count declared) s s h (omega arith)

  no_mark : (s : ℕ) → source_count declared ≤ s → mark_at (marks_of c declared past) (Some s) ≡ None
  no_mark s h = slice_get_past (marks_of c declared past) s (omega (arith, length-map-range_with_len (λ s. source_mark c s past) 0 (source_count declared)))

  rises_by : (m t : ℤ) (b : Bool) → m ≤ℤ (if b then int_max m t else m)
  rises_by m t true = grind (arith, ints)
  rises_by m t false = omega (arith, ints)

  source_rises : (e : Event) (s : ℕ) → source_mark c s past ≤ℤ source_mark c s (e ∷ past)
  source_rises (Record k t vs) s = omega (arith, ints)
  source_rises (Watermark source t) s = rises_by (source_mark c s past) t (is_source s source && is_time t)

  -- the watermark never falls
  pub watermark_rises : (e : Event) → watermark_of c declared past ≤ℤ watermark_of c declared (e ∷ past)
  watermark_rises e = least_rises (λ s. source_mark c s past) (λ s. source_mark c s (e ∷ past)) (range_with_len 0 (source_count declared)) (source_rises e)

  abbrev next : ℕ → ℤ → ℕ → ℤ
  next n t s = source_mark c s (Watermark (Some n) t ∷ past)

  other : (n s : ℕ) (t : ℤ) → (s ≡ n → ⊥) → source_mark c s past ≡ next n t s
  other n s t h =
      let apart : nat_eq n s ≡ false = grind (arith, nat_tests) in
      ap (λ (b : Bool). if b && is_time t then int_max (source_mark c s past) t else source_mark c s past) (sym apart)

  greatest : (n : ℕ) (t : ℤ) → is_time t ≡ true → source_mark c n past <ℤ t → next n t n ≡ t
  greatest n t in_time low =
      let itself : nat_eq n n ≡ true = grind (arith, nat_tests) in
      let more : int_max (source_mark c n past) t ≡ t = grind (arith, ints) in
      (λ i. if itself i && in_time i then int_max (source_mark c n past) t else source_mark c n past) ∙ more

  not_greater : (n s : ℕ) (t : ℤ) (in_time : Bool) → in_time ≡ is_time t → (in_time ≡ true → t ≤ℤ source_mark c n past) → source_mark c s past ≡ next n t s
  not_greater n s t in_time h low =
      elim (nat_eq n s) as (λ b. nat_eq n s ≡ b → source_mark c s past ≡ (if b && is_time t then int_max (source_mark c s past) t else source_mark c s past)) [
        | false ↦ λ apart. refl
        | true ↦ λ same. kept (is_time t) (λ in_t. subst (λ (j : ℕ). t ≤ℤ source_mark c j past) (equal same) (low (h ∙ in_t)))
      ] refl
    where
      equal : nat_eq n s ≡ true → n ≡ s
      equal e = grind (arith, nat_tests)

      kept : (b : Bool) → (b ≡ true → t ≤ℤ source_mark c s past) → source_mark c s past ≡ (if b then int_max (source_mark c s past) t else source_mark c s past)
      kept false k = refl
      kept true k = let less : t ≤ℤ source_mark c s past = k refl in grind (arith, ints)

  -- ---- an accepted watermark

  -- no rule refuses the watermark
  pub record IsAccepted (source : Option ℕ) (time : ℤ) : Type 0 where
    pub s : ℕ
    pub is : source ≡ Some s
    pub few : s < source_count declared
    pub in_time : is_time time ≡ true
    pub past_mark : source_mark c s past <ℤ time

  passed : (m t : ℤ) (in_time low : Bool) → low ≡ int_le t m → (if not in_time then Some refusal.TimeRange else if low then Some refusal.NotRising else None) ≡ None → (in_time ≡ true) × (m <ℤ t)
  passed m t false low k h = absurd cc
  passed m t true true k h = absurd cc
  passed m t true false k h = (refl, grind (arith, ints))

  pub accepted_watermark : (source : Option ℕ) (t : ℤ) → watermark_refusal (mark_at (marks_of c declared past) source) t ≡ None → IsAccepted source t
  accepted_watermark None t h = absurd cc
  accepted_watermark (Some n) t h =
      elim (cases_lt n (source_count declared)) [
        | inl few ↦
            let both = passed (source_mark c n past) t (is_time t) (int_le t (source_mark c n past)) refl (ap (λ (m : Option ℤ). watermark_refusal m t) (sym (mark_of_source n few)) ∙ h) in
            record { s = n; is = refl; few = few; in_time = both.0; past_mark = both.1 }
        | inr many ↦ let none : watermark_refusal (mark_at (marks_of c declared past) (Some n)) t ≡ Some refusal.UnknownSource = ap (λ (m : Option ℤ). watermark_refusal m t) (no_mark n many) in absurd cc
      ]

  marks_taken : (source : Option ℕ) (t : ℤ) → IsAccepted source t → marks_of c declared (Watermark source t ∷ past) ≡ marks_with (marks_of c declared past) (Watermark source t)
  marks_taken source t a =
      subst (λ (o : Option ℕ). marks_of c declared (Watermark o t ∷ past) ≡ marks_with (marks_of c declared past) (Watermark o t)) (sym a.is)
      (sym (set_of (λ s. source_mark c s past) (next a.s t) 0 (source_count declared) a.s a.s t (omega arith) (greatest a.s t a.in_time a.past_mark) (λ j. other a.s j t)))

  pub accepted_marks : (source : Option ℕ) (t : ℤ) → watermark_refusal (mark_at (marks_of c declared past) source) t ≡ None → marks_of c declared (Watermark source t ∷ past) ≡ marks_with (marks_of c declared past) (Watermark source t)
  accepted_marks source t h = marks_taken source t (accepted_watermark source t h)

  -- ---- a refused watermark

  held_back : (m t : ℤ) (in_time low : Bool) (r : Refusal) → low ≡ int_le t m → (if not in_time then Some refusal.TimeRange else if low then Some refusal.NotRising else None) ≡ Some r → in_time ≡ true → t ≤ℤ m
  held_back m t false low r k h is = absurd cc
  held_back m t true true r k h is = grind (arith, ints)
  held_back m t true false r k h is = absurd cc

  -- it changes no mark
  pub refused_marks : (source : Option ℕ) (t : ℤ) (r : Refusal) → watermark_refusal (mark_at (marks_of c declared past) source) t ≡ Some r → marks_of c declared (Watermark source t ∷ past) ≡ marks_of c declared past
  refused_marks None t r h = refl
  refused_marks (Some n) t r h =
      sym (map_same (λ s. source_mark c s past) (next n t) 0 (source_count declared) (λ s from until. elim (cases_lt n (source_count declared)) [
        | inl few ↦ not_greater n s t (is_time t) refl (held_back (source_mark c n past) t (is_time t) (int_le t (source_mark c n past)) r refl (ap (λ (m : Option ℤ). watermark_refusal m t) (sym (mark_of_source n few)) ∙ h))
        | inr many ↦ other n s t (λ same. omega arith)
      ]))

-- ---- live windows

none_passes : (p : Window → Bool) (ws : List Window) (o : Option Window) (rest : List Window) → YieldsFirst (λ (s : List Window). s) (filter p ws) o rest → is_some o ≡ list_any p ws
none_passes p [] None rest h = refl
none_passes p [] (Some w) rest h = absurd cc
none_passes p (v ∷ ws) o rest h =
    elim (p v) as (λ b. YieldsFirst (λ (s : List Window). s) (cond b (v ∷ filter p ws) (filter p ws)) o rest → is_some o ≡ (b || list_any p ws)) [
      | true ↦ first o
      | false ↦ λ k. none_passes p ws o rest k
    ] h
  where
    first : (o : Option Window) → YieldsFirst (λ (s : List Window). s) (v ∷ filter p ws) o rest → is_some o ≡ true
    first None k = let clash : v ∷ filter p ws ≡ [] = k.0 in absurd cc
    first (Some w) k = refl

-- the first of the live windows of a time is there where one of its windows is live
pub first_is_live : (shape : Shape) (time lateness mark : ℤ) (ws : List Window) (o : Option Window) (rest : List Window) (b : Bool) →
    ws ≡ live_windows_of shape time lateness mark → YieldsFirst (λ (s : List Window). s) ws o rest → is_some o ≡ not b → b ≡ is_late_by true shape lateness mark time
first_is_live shape time lateness mark ws o rest b is yields none =
    let some = none_passes (λ w. is_live w lateness mark) (windows_of_shape shape time) o rest (subst (λ (xs : List Window). YieldsFirst (λ (s : List Window). s) xs o rest) is yields) in
    twice b ∙ ap not (sym none ∙ some)
  where
    twice : (b : Bool) → b ≡ not (not b)
    twice true = refl
    twice false = refl
