-- A double that passes, since its identifier was forgotten, is late: so what passes with the small memory does what passes without
-- the doubles.
use Rattle.std.proofs.Common.{◌≡◌, ℕ, Bool, true, false, ◌&&◌, cond, not, List, [], ◌∷◌, ◌++◌, map, length, ℤ, pos, ◌+ℤ◌, ◌*ℤ◌, ◌≤ℤ◌, ◌<ℤ◌, Option, Some, None, is_none, refl, sym, ap, subst, ◌∙◌, ⊎_elim, arith}
use Rattle.std.proofs.lemmas.Int.{ints}
use Rattle.std.proofs.lemmas.Bool.{true≢false, or_cases, or_left, or_right, and_from}
use Rattle.std.proofs.lemmas.List.{map-append}
use Rattle.std.specs.Prelude.{Contains, filter, int_lt, nat_eq}
use Rattle.std.specs.List.{AllByRecursion, list_any}
use Rattle.wsm_record.specs.declared.event.Value.{Value}
use Rattle.wsm_record.specs.Event.{Event, Record, Watermark}
use Rattle.wsm_windows.specs.declared.window.Window.{Window}
use Rattle.wsm_windows.specs.declared.window.Shape.{Shape}
use Rattle.wsm_windows.specs.declared.window.Shape.TheVariants.{Fixed, Sliding, Session}
use Rattle.wsm_windows.specs.Windows.{window, windows_of_shape, last_start, IsWindowOf, IsWindowOfShape, IsShape}
use Rattle.wsm_windows.specs.Life.{is_live}
use Rattle.wsm_windows.proofs.Members.{exactly_shape}
use Rattle.wsm_windows.proofs.LiveWindows.{at_mark}
use Rattle.wsm_admission.specs.declared.verdict.Refusal.{Refusal}
use Rattle.wsm_admission.specs.Clock.{marks_of, least, is_late, is_late_by, admitted_count, admitted_with, verdict_at}
use Rattle.wsm_admission.proofs.SourceMarks.{watermark_rises}
use Rattle.wsm_admission.proofs.Taken.{taken_record}
use Rattle.wsm_semantics.specs.Query.{Query, Datum, datum, Selects, Nothing, mark, verdict_on, is_taken, selection, selection_of, selected}
use Rattle.wsm_semantics.specs.ByKey.{at_turn}
use Rattle.wsm_semantics.specs.Deliveries.{Sent, Delivery, Comes, Told, event_of, came, once_all, Passing, knows, may_count, passes, passing, once_live, AreTimed, PassesAlike}
use Rattle.wsm_semantics.proofs.Lists.{filter-all, all-each}
use Rattle.wsm_semantics.proofs.Each.{itself, same_key, all-any, list_any-filter, list_any-more, passed, some_of}
use Rattle.wsm_semantics.proofs.Decided.{not_false}
use Rattle.wsm_semantics.proofs.NeededLive.{any_of}
use Rattle.wsm_semantics.proofs.Effects.{effect-refused, selects_none}
use Rattle.wsm_semantics.proofs.LaterMarks.{next_marks}
use Rattle.wsm_semantics.proofs.WindowEnds.{begins_by, last_window}
use Rattle.wsm_semantics.proofs.AmountWindows.{each_contained}

-- ---- what is late stays late

live_before : (m n end l : ℤ) → m ≤ℤ n → int_lt n (end +ℤ l) ≡ true → int_lt m (end +ℤ l) ≡ true
live_before m n end l h k = grind (arith, ints)

prompt_before : (m n t l : ℤ) → m ≤ℤ n → int_lt (t +ℤ l) n ≡ false → int_lt (t +ℤ l) m ≡ false
prompt_before m n t l h k = grind (arith, ints)

pub prompt_sooner : (by_window : Bool) (shape : Shape) (l t m n : ℤ) → m ≤ℤ n → is_late_by by_window shape l n t ≡ false → is_late_by by_window shape l m t ≡ false
prompt_sooner false shape l t m n h k = prompt_before m n t l h k
prompt_sooner true shape l t m n h k =
    ap not (list_any-more (λ w. Unit {0}) (λ w. is_live w l n) (λ w. is_live w l m) (λ w _ live. live_before m n w.end l h live) (windows_of_shape shape t) (all-any (λ w. Unit {0}) (λ w. tt) (windows_of_shape shape t)) (not_false (list_any (λ w. is_live w l n) (windows_of_shape shape t)) k))

-- and so is what has an earlier time
late_by : (t u l w : ℤ) → t ≤ℤ u → int_lt (u +ℤ l) w ≡ true → int_lt (t +ℤ l) w ≡ true
late_by t u l w h k = grind (arith, ints)

no_live : (b : Bool) → not b ≡ true → b ≡ false
no_live true h = absurd (true≢false (sym h))
no_live false h = refl

starts_by : (start k t u : ℤ) → start ≡ k → start ≤ℤ t → t ≤ℤ u → k ≤ℤ u
starts_by start k t u is h m = omega (arith, ints)

lives_on : (end start k last size l w : ℤ) → end ≡ start +ℤ size → start ≡ k → k ≤ℤ last → int_lt w (end +ℤ l) ≡ true → w <ℤ ((last +ℤ size) +ℤ l)
lives_on end start k last size l w is at h live = grind (arith, ints)

ends_later : (t u gap size : ℤ) → t <ℤ (u +ℤ gap) → gap ≤ℤ size → t <ℤ (u +ℤ size)
ends_later t u gap size h k = omega (arith, ints)

-- a window of a time that is live has one of a later time that is
later_grid : (size period l t u w : ℤ) → pos 1 ≤ℤ period → period ≤ℤ size → t ≤ℤ u → (v : Window) → IsWindowOf size period t v → is_live v l w ≡ true →
    (x : Window) × IsWindowOf size period u x × (is_live x l w ≡ true)
later_grid size period l t u w long longer later v h live =
    let last : ℤ = last_start period u in
    let n = last_window period u long in
    let x : Window = window last (last +ℤ size) in
    let on : w <ℤ ((last +ℤ size) +ℤ l) = lives_on v.end v.start (h.k *ℤ period) last size l w h.end h.start (begins_by period h.k u long (starts_by v.start (h.k *ℤ period) t u h.start h.from later)) live in
    (x, record { k = n.0; start = n.1; end = refl; from = n.2; until = ends_later u last period size n.3 longer }, at_mark x l w on)

lives_longer : (t u gap l w : ℤ) → t ≤ℤ u → int_lt w ((t +ℤ gap) +ℤ l) ≡ true → int_lt w ((u +ℤ gap) +ℤ l) ≡ true
lives_longer t u gap l w h k = grind (arith, ints)

later_window : (shape : Shape) → IsShape shape → (l t u w : ℤ) → t ≤ℤ u → (v : Window) → IsWindowOfShape shape t v → is_live v l w ≡ true → (x : Window) × IsWindowOfShape shape u x × (is_live x l w ≡ true)
later_window (Fixed size) ok l t u w later v h live = later_grid size size l t u w ok.period_low ok.period_high later v h live
later_window (Sliding size period) ok l t u w later v h live = later_grid size period l t u w ok.period_low ok.period_high later v h live
later_window (Session gap) ok l t u w later v h live = (window u (u +ℤ gap), refl, lives_longer t u gap l w later (ap (λ (x : Window). is_live x l w) (sym h) ∙ live))

live_later : (shape : Shape) → IsShape shape → (l t u w : ℤ) → t ≤ℤ u → list_any (λ v. is_live v l w) (windows_of_shape shape t) ≡ true → list_any (λ v. is_live v l w) (windows_of_shape shape u) ≡ true
live_later shape ok l t u w later some =
    let (v, there, live) = some_of (Contains (windows_of_shape shape t)) (λ v. is_live v l w) (windows_of_shape shape t) (each_contained (windows_of_shape shape t)) some in
    let (x, is, on) = later_window shape ok l t u w later v ((exactly_shape shape t v ok).0 there) live in
    any_of (λ v. is_live v l w) (windows_of_shape shape u) x ((exactly_shape shape u x ok).1 is) on

pub late_earlier : (by_window : Bool) (shape : Shape) → IsShape shape → (l t u w : ℤ) → t ≤ℤ u → is_late_by by_window shape l w u ≡ true → is_late_by by_window shape l w t ≡ true
late_earlier false shape ok l t u w h k = late_by t u l w h k
late_earlier true shape ok l t u w h k =
    elim (list_any (λ v. is_live v l w) (windows_of_shape shape t)) as (λ b. list_any (λ v. is_live v l w) (windows_of_shape shape t) ≡ b → not b ≡ true) [
      | true ↦ λ some. absurd (true≢false (sym (live_later shape ok l t u w h some) ∙ no_live (list_any (λ v. is_live v l w) (windows_of_shape shape u)) k))
      | false ↦ λ _. refl
    ] refl

-- a record whose turn is of no account
abbrev pub flat : Datum → Datum
flat d = at_turn (λ n. 0) d

flat_selection : (b : Bool) (m n : ℕ) (v w : ℤ) (k : ℕ) (t : ℤ) (vs : List Value) → v ≡ w →
    map flat (selection (cond b (Selects (datum m v k t vs)) Nothing)) ≡ map flat (selection (cond b (Selects (datum n w k t vs)) Nothing))
flat_selection true m n v w k t vs same = λ i. datum 0 (same i) k t vs ∷ []
flat_selection false m n v w k t vs same = refl

module _ (q : Query) (ok : IsShape q.shape) (time_of : ℕ → ℤ) where
  -- the second history lacks events of the first that were refused
  pub record Alike (past other : List Event) : Type 0 where
    pub marks : marks_of q.clock q.declared past ≡ marks_of q.clock q.declared other
    pub admitted : admitted_count q.clock q.shape q.declared past ≡ admitted_count q.clock q.shape q.declared other
    pub selected : map flat (selected q past) ≡ map flat (selected q other)

  pub same_verdict : (past other : List Event) → Alike past other → (e : Event) → verdict_on q past e ≡ verdict_on q other e
  same_verdict past other h e = λ i. verdict_at q.clock q.shape q.declared (h.marks i) (h.admitted i) e

  same_selection : (past other : List Event) → Alike past other → (e : Event) → map flat (selection_of q past e) ≡ map flat (selection_of q other e)
  same_selection past other h (Record None t vs) = refl
  same_selection past other h (Record (Some k) t vs) =
      ap (λ (v : Option Refusal). map flat (selection (cond (is_none v && q.selects k vs) (Selects (datum (length past) (mark q past) k t vs)) Nothing))) (same_verdict past other h (Record (Some k) t vs))
      ∙ flat_selection (is_taken q other (Record (Some k) t vs) && q.selects k vs) (length past) (length other) (mark q past) (mark q other) k t vs (ap least h.marks)
  same_selection past other h (Watermark o t) = ap (map flat) (selects_none q past o t) ∙ sym (ap (map flat) (selects_none q other o t))

  -- an event that both have
  pub both_have : (past other : List Event) → Alike past other → (e : Event) → Alike (e ∷ past) (e ∷ other)
  both_have past other h e = record {
    marks = next_marks q q.clock.start q.clock.records other past h.marks e;
    admitted = λ i. admitted_with (h.admitted i) e (verdict_at q.clock q.shape q.declared (h.marks i) (h.admitted i) e);
    selected = map-append flat (selection_of q past e) (selected q past) ∙ (λ i. same_selection past other h e i ++ h.selected i) ∙ sym (map-append flat (selection_of q other e) (selected q other));
  }

  -- a refused record that the first has alone
  pub one_has : (past other : List Event) → Alike past other → (s : Sent) (r : Refusal) → verdict_on q past (event_of s) ≡ Some r → Alike (event_of s ∷ past) other
  one_has past other h s r refused = record {
    marks = h.marks;
    admitted = ap (admitted_with (admitted_count q.clock q.shape q.declared past) (event_of s)) refused ∙ h.admitted;
    selected = ap (λ (ds : List Datum). map flat (ds ++ selected q past)) (ap selection (effect-refused q past (event_of s) r refused)) ∙ h.selected;
  }

  -- a late one is refused
  pub late_refused : (past : List Event) (s : Sent) → is_late q.clock q.shape (mark q past) s.time ≡ true → (r : Refusal) × (verdict_on q past (event_of s) ≡ Some r)
  late_refused past s late = by (verdict_on q past (event_of s)) refl where
    by : (v : Option Refusal) → verdict_on q past (event_of s) ≡ v → (r : Refusal) × (verdict_on q past (event_of s) ≡ Some r)
    by None h = absurd (true≢false (sym late ∙ (taken_record q.clock q.shape q.declared (mark q past) (admitted_count q.clock q.shape q.declared past) s.key s.time s.values h).prompt))
    by (Some r) h = (r, h)

  -- ---- what is remembered

  -- identifiers that came, with their times; and each that came of which a record isn't late yet
  pub record Remembers (ds : List Delivery) (w : ℤ) (memory : List (ℕ × ℤ)) : Type 0 where
    pub timed : AllByRecursion (λ k. k.1 ≡ time_of k.0) memory
    pub told : AllByRecursion (λ k. came k.0 ds ≡ true) memory
    pub recalls : (i : ℕ) → came i ds ≡ true → is_late q.clock q.shape w (time_of i) ≡ false → knows i memory ≡ true

  pub knows_came : (i : ℕ) (ds : List Delivery) (memory : List (ℕ × ℤ)) → AllByRecursion (λ k. came k.0 ds ≡ true) memory → knows i memory ≡ true → came i ds ≡ true
  knows_came i ds memory all known =
      let (k, there, same) = some_of (λ k. came k.0 ds ≡ true) (λ k. nat_eq k.0 i) memory all known in
      ap (λ (j : ℕ). came j ds) (sym (same_key k.0 i same)) ∙ there

  -- what isn't late isn't forgotten
  still_known : (i : ℕ) (w : ℤ) (memory : List (ℕ × ℤ)) → AllByRecursion (λ k. k.1 ≡ time_of k.0) memory → is_late q.clock q.shape w (time_of i) ≡ false → knows i memory ≡ true → knows i (filter (may_count q w) memory) ≡ true
  still_known i w memory timed prompt known =
      list_any-filter (λ k. nat_eq k.0 i) (may_count q w) memory
      ∙ list_any-more (λ k. k.1 ≡ time_of k.0) (λ k. nat_eq k.0 i) (λ k. may_count q w k && nat_eq k.0 i)
      (λ k is same. and_from (may_count q w k) (nat_eq k.0 i) (ap (λ (t : ℤ). not (is_late q.clock q.shape w t)) (is ∙ ap time_of (same_key k.0 i same)) ∙ ap not prompt) same)
      memory timed known

  forgets : (ds : List Delivery) (v w : ℤ) (memory : List (ℕ × ℤ)) → v ≤ℤ w → Remembers ds v memory → Remembers ds w (filter (may_count q w) memory)
  forgets ds v w memory later h = record {
    timed = filter-all (λ k. k.1 ≡ time_of k.0) (may_count q w) memory h.timed;
    told = filter-all (λ k. came k.0 ds ≡ true) (may_count q w) memory h.told;
    recalls = λ i there prompt. still_known i w memory h.timed prompt (h.recalls i there (prompt_sooner q.clock.from_window q.shape q.clock.lateness (time_of i) v w later prompt));
  }

  -- a record that passes
  with_one : (ds : List Delivery) (w : ℤ) (memory : List (ℕ × ℤ)) (s : Sent) → s.time ≡ time_of s.identifier → Remembers ds w memory → Remembers (Comes s ∷ ds) w ((s.identifier, s.time) ∷ memory)
  with_one ds w memory s timed h = record {
    timed = (timed, h.timed);
    told = (or_left _ _ (itself s.identifier), all-each (λ k. came k.0 ds ≡ true) (λ k. came k.0 (Comes s ∷ ds) ≡ true) memory (λ k there. or_right (nat_eq s.identifier k.0) (came k.0 ds) there) h.told);
    recalls = λ i there prompt. ⊎_elim (λ it. or_left _ _ it) (λ before. or_right (nat_eq s.identifier i) (knows i memory) (h.recalls i before prompt)) (or_cases (nat_eq s.identifier i) (came i ds) there);
  }

  -- one that is known
  without_it : (ds : List Delivery) (w : ℤ) (memory : List (ℕ × ℤ)) (s : Sent) → knows s.identifier memory ≡ true → Remembers ds w memory → Remembers (Comes s ∷ ds) w memory
  without_it ds w memory s known h = record {
    timed = h.timed;
    told = all-each (λ k. came k.0 ds ≡ true) (λ k. came k.0 (Comes s ∷ ds) ≡ true) memory (λ k there. or_right (nat_eq s.identifier k.0) (came k.0 ds) there) h.told;
    recalls = λ i there prompt. ⊎_elim (λ it. ap (λ (j : ℕ). knows j memory) (sym (same_key s.identifier i it)) ∙ known) (λ before. h.recalls i before prompt) (or_cases (nat_eq s.identifier i) (came i ds) there);
  }

  -- ---- any deliveries

  pub record Follows (ds : List Delivery) (o : Passing) (other : List Event) : Type 0 where
    pub alike : Alike o.passed other
    pub remembers : Remembers ds (mark q o.passed) o.memory

  at_most : (w : ℤ) → w ≤ℤ w
  at_most w = omega (arith, ints)

  -- a record that passes is remembered, where the watermark stays
  passes_on : (ds : List Delivery) (o : Passing) (s : Sent) → s.time ≡ time_of s.identifier → Remembers ds (mark q o.passed) o.memory → Remembers (Comes s ∷ ds) (mark q o.passed) (passes q (event_of s) ((s.identifier, s.time) ∷ o.memory) o.passed).memory
  passes_on ds o s timed h = forgets (Comes s ∷ ds) (mark q o.passed) (mark q o.passed) ((s.identifier, s.time) ∷ o.memory) (at_most (mark q o.passed)) (with_one ds (mark q o.passed) o.memory s timed h)

  -- a late one isn't remembered
  late_passes : (ds : List Delivery) (o : Passing) (s : Sent) → is_late q.clock q.shape (mark q o.passed) s.time ≡ true → is_late q.clock q.shape (mark q o.passed) (time_of s.identifier) ≡ true → Remembers ds (mark q o.passed) o.memory →
      Remembers (Comes s ∷ ds) (mark q o.passed) (passes q (event_of s) ((s.identifier, s.time) ∷ o.memory) o.passed).memory
  late_passes ds o s late over h =
      let w : ℤ = mark q o.passed in
      let rest : List (ℕ × ℤ) = filter (may_count q w) o.memory in
      let r : Remembers ds w rest = forgets ds w w o.memory (at_most w) h in
      subst (λ (b : Bool). Remembers (Comes s ∷ ds) w (cond (not b) ((s.identifier, s.time) ∷ rest) rest)) (sym late)
      (record {
        timed = r.timed;
        told = all-each (λ k. came k.0 ds ≡ true) (λ k. came k.0 (Comes s ∷ ds) ≡ true) rest (λ k there. or_right (nat_eq s.identifier k.0) (came k.0 ds) there) r.told;
        recalls = λ i there prompt. ⊎_elim
            (λ it. absurd (true≢false (sym over ∙ ap (λ (j : ℕ). is_late q.clock q.shape w (time_of j)) (same_key s.identifier i it) ∙ prompt)))
            (λ before. r.recalls i before prompt)
            (or_cases (nat_eq s.identifier i) (came i ds) there);
      })

  -- a double that isn't known is late
  forgotten : (ds : List Delivery) (o : Passing) (s : Sent) → Remembers ds (mark q o.passed) o.memory → came s.identifier ds ≡ true → knows s.identifier o.memory ≡ false → is_late q.clock q.shape (mark q o.passed) (time_of s.identifier) ≡ true
  forgotten ds o s h there unknown =
      elim (is_late q.clock q.shape (mark q o.passed) (time_of s.identifier)) as (λ b. is_late q.clock q.shape (mark q o.passed) (time_of s.identifier) ≡ b → b ≡ true) [
        | true ↦ λ _. refl
        | false ↦ λ prompt. absurd (true≢false (sym (h.recalls s.identifier there prompt) ∙ unknown))
      ] refl

  pub forgotten_late : (ds : List Delivery) (o : Passing) (s : Sent) → s.time ≤ℤ time_of s.identifier → Remembers ds (mark q o.passed) o.memory → came s.identifier ds ≡ true → knows s.identifier o.memory ≡ false → is_late q.clock q.shape (mark q o.passed) s.time ≡ true
  forgotten_late ds o s timed h there unknown = late_earlier q.clock.from_window q.shape ok q.clock.lateness s.time (time_of s.identifier) (mark q o.passed) timed (forgotten ds o s h there unknown)

  pub follows : (ds : List Delivery) → AreTimed time_of ds → Follows ds (passing q ds) (once_all ds)
  follows [] timed = record { alike = record { marks = refl; admitted = refl; selected = refl }; remembers = record { timed = tt; told = tt; recalls = λ i there prompt. absurd (true≢false (sym there)) } }
  follows (Comes s ∷ ds) timed =
      let o : Passing = passing q ds in
      let other : List Event = once_all ds in
      let h : Follows ds o other = follows ds timed.2 in
      let on : Passing = passes q (event_of s) ((s.identifier, s.time) ∷ o.memory) o.passed in
      elim (knows s.identifier o.memory) as (λ b. knows s.identifier o.memory ≡ b → Follows (Comes s ∷ ds) (cond b o on) (cond (came s.identifier ds) other (event_of s ∷ other))) [
        | true ↦ λ known.
            subst (λ (b : Bool). Follows (Comes s ∷ ds) o (cond b other (event_of s ∷ other))) (sym (knows_came s.identifier ds o.memory h.remembers.told known))
            (record { alike = h.alike; remembers = without_it ds (mark q o.passed) o.memory s known h.remembers })
        | false ↦ λ unknown. elim (came s.identifier ds) as (λ b. came s.identifier ds ≡ b → Follows (Comes s ∷ ds) on (cond b other (event_of s ∷ other))) [
          | true ↦ λ there.
              let late = forgotten_late ds o s timed.0 h.remembers there unknown in
              let refused = late_refused o.passed s late in
              record { alike = one_has o.passed other h.alike s refused.0 refused.1; remembers = late_passes ds o s late (forgotten ds o s h.remembers there unknown) h.remembers }
          | false ↦ λ first. record { alike = both_have o.passed other h.alike (event_of s); remembers = passes_on ds o s (timed.1 first) h.remembers }
        ] refl
      ] refl
  follows (Told source t ∷ ds) timed =
      let o : Passing = passing q ds in
      let h : Follows ds o (once_all ds) = follows ds timed in
      let e : Event = Watermark source t in
      let r : Remembers ds (mark q (e ∷ o.passed)) (filter (may_count q (mark q (e ∷ o.passed))) o.memory) = forgets ds (mark q o.passed) (mark q (e ∷ o.passed)) o.memory (watermark_rises q.clock q.declared o.passed e) h.remembers in
      record { alike = both_have o.passed (once_all ds) h.alike e; remembers = record { timed = r.timed; told = r.told; recalls = r.recalls } }

  -- what is remembered isn't late
  all_prompt : (w : ℤ) (memory : List (ℕ × ℤ)) → AllByRecursion (λ k. is_late q.clock q.shape w k.1 ≡ false) (filter (may_count q w) memory)
  all_prompt w memory = all-each (λ k. may_count q w k ≡ true) (λ k. is_late q.clock q.shape w k.1 ≡ false) (filter (may_count q w) memory) (λ k h. not_so (is_late q.clock q.shape w k.1) h) (passed (may_count q w) memory) where
    not_so : (b : Bool) → not b ≡ true → b ≡ false
    not_so true h = absurd (true≢false (sym h))
    not_so false h = refl

  each_prompt : (ds : List Delivery) → AllByRecursion (λ k. is_late q.clock q.shape (mark q (once_live q ds)) k.1 ≡ false) (passing q ds).memory
  each_prompt [] = tt
  each_prompt (Comes s ∷ ds) =
      let o : Passing = passing q ds in
      let on : Passing = passes q (event_of s) ((s.identifier, s.time) ∷ o.memory) o.passed in
      elim (knows s.identifier o.memory) as (λ b. AllByRecursion (λ k. is_late q.clock q.shape (mark q (cond b o on).passed) k.1 ≡ false) (cond b o on).memory) [
        | true ↦ each_prompt ds
        | false ↦ all_prompt (mark q (event_of s ∷ o.passed)) ((s.identifier, s.time) ∷ o.memory)
      ]
  each_prompt (Told source t ∷ ds) = all_prompt (mark q (Watermark source t ∷ once_live q ds)) (passing q ds).memory

  pub passes_alike : (ds : List Delivery) → AreTimed time_of ds → PassesAlike q ds
  passes_alike ds timed =
      let h : Follows ds (passing q ds) (once_all ds) = follows ds timed in
      record {
        watermark = ap least h.alike.marks;
        verdict = same_verdict (once_live q ds) (once_all ds) h.alike;
        selected = h.alike.selected;
        told = h.remembers.told;
        prompt = each_prompt ds;
      }
