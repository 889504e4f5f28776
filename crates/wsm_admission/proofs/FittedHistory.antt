-- What an event leaves of a history that is fitted.
use Rattle.std.proofs.Common.{◌≡◌, ◌≤◌, ◌<◌, ℕ, zero, suc, ◌+◌, Bool, true, false, cond, List, [], ◌∷◌, length, replicate, inl, inr, subst, ℤ, Option, Some, None, Result, refl, sym, ap, ◌∙◌, arith}
use Rattle.std.proofs.lemmas.Int.{ints, fold-int_min_reached}
use Rattle.std.proofs.lemmas.List.{length-replicate, length-set}
use Rattle.std.proofs.lemmas.List.Elements.{All-replicate, All-head, All-tail, All-contains, All-set}
use Rattle.std.proofs.lemmas.Option.{slice_get_cases}
use Rattle.std.proofs.lemmas.Bool.Decides.{nat_tests}
use Rattle.std.specs.Prelude.{All, not, nat_eq, if◌then◌else◌, slice_get, slice_set, unsigned_abs}
use Rattle.wsm_record.specs.Event.{Event, Record, Watermark}
use Rattle.wsm_record.specs.Schema.{Declared, source_count}
use Rattle.wsm_windows.specs.declared.window.Shape.{Shape}
use Rattle.wsm_windows.specs.Windows.{IsTime}
use Rattle.wsm_admission.specs.declared.verdict.Admitted.{Admitted}
use Rattle.wsm_admission.specs.declared.verdict.Refusal.{Refusal}
use Rattle.wsm_admission.specs.declared.verdict.Refusal.TheVariants as refusal
use Rattle.wsm_admission.specs.declared.clock.Clock.{Clock}
use Rattle.wsm_admission.specs.Clock.{IsWithinLimits, is_time, watermark_refusal, marks_of, least, watermark_of, admitted_count, late_count, refused_count, verdict, verdict_at, admitted_with, late_with, refused_with}
use Rattle.wsm_admission.specs.Admission.{State, Fits, IsInRange, MayTake, opened, counter, answer, answer_after, after, decision, marks_with}
use Rattle.wsm_admission.proofs.SourceMarks.{accepted_marks, all_start, least_alike}
use Rattle.wsm_admission.proofs.Taken.{refused_keeps, taken_record}

pub counted : (a n : ℕ) → a ≡ counter n → counter (a + 1) ≡ counter (n + 1)
counted a n h = omega arith

module _ (old new : ℤ) (s : State) where
  late-after : (e : Event) (v : Option Refusal) (n : ℕ) → s.late ≡ counter n → (after (answer old new e v) e s).late ≡ counter (late_with n v)
  late-after (Record k t vs) None n h = h
  late-after (Watermark source t) None n h = h
  late-after e (Some refusal.Late) n h = counted s.late n h
  late-after e (Some _) n h = h

  refused-after : (e : Event) (v : Option Refusal) (n : ℕ) → s.refused ≡ counter n → (after (answer old new e v) e s).refused ≡ counter (refused_with n v)
  refused-after (Record k t vs) None n h = h
  refused-after (Watermark source t) None n h = h
  refused-after e (Some refusal.Late) n h = h
  refused-after e (Some _) n h = counted s.refused n h

  admitted-after : (e : Event) (v : Option Refusal) → (after (answer old new e v) e s).admitted ≡ admitted_with s.admitted e v
  admitted-after (Record k t vs) None = refl
  admitted-after (Record k t vs) (Some refusal.Late) = refl
  admitted-after (Record k t vs) (Some _) = refl
  admitted-after (Watermark source t) None = refl
  admitted-after (Watermark source t) (Some refusal.Late) = refl
  admitted-after (Watermark source t) (Some _) = refl

  pub clock-after : (e : Event) (v : Option Refusal) → (after (answer old new e v) e s).clock ≡ s.clock
  clock-after (Record k t vs) None = refl
  clock-after (Watermark source t) None = refl
  clock-after e (Some refusal.Late) = refl
  clock-after e (Some _) = refl

  -- a refusal leaves the marks
  marks-refused : (e : Event) (r : Refusal) → ((after (answer old new e (Some r)) e s).marks ≡ s.marks) × ((after (answer old new e (Some r)) e s).mark ≡ s.mark)
  marks-refused e refusal.Late = (refl, refl)
  marks-refused e _ = (refl, refl)

module _ (shape : Shape) (declared : Declared) (s : State) (past : List Event) (h : Fits shape declared s past) where
  abbrev new_mark : Event → ℤ
  new_mark e = least (marks_with s.marks e)

  -- by what is kept an event has the verdict that it has by the history
  verdict_kept : (e : Event) → verdict_at s.clock shape declared s.marks s.admitted e ≡ verdict s.clock shape declared past e
  verdict_kept e = λ i. verdict_at s.clock shape declared (h.marks i) (h.admitted i) e

  -- what is taken leaves the marks of the history with it
  taken_marks : (e : Event) → verdict s.clock shape declared past e ≡ None → marks_with s.marks e ≡ marks_of s.clock declared (e ∷ past)
  taken_marks (Record k t vs) taken = h.marks
  taken_marks (Watermark source t) taken = ap (λ (ms : List ℤ). marks_with ms (Watermark source t)) h.marks ∙ sym (accepted_marks s.clock declared past source t taken)

  -- the answer is that of the history
  pub answer-fits : (e : Event) → decision shape declared s e ≡ answer_after s.clock shape declared past e
  answer-fits e =
      ap (answer s.mark (new_mark e) e) (verdict_kept e)
      ∙ elim (verdict s.clock shape declared past e) as (λ v. verdict s.clock shape declared past e ≡ v → answer s.mark (new_mark e) e v ≡ answer (watermark_of s.clock declared past) (watermark_of s.clock declared (e ∷ past)) e v) [
        | None ↦ λ taken. λ i. answer (h.mark i) (least (taken_marks e taken i)) e None
        | Some r ↦ λ refused. refl
      ] refl

  marks-after : (e : Event) (v : Option Refusal) → v ≡ verdict s.clock shape declared past e →
      ((after (answer s.mark (new_mark e) e v) e s).marks ≡ marks_of s.clock declared (e ∷ past)) × ((after (answer s.mark (new_mark e) e v) e s).mark ≡ watermark_of s.clock declared (e ∷ past))
  marks-after (Record k t vs) None is = (h.marks, h.mark)
  marks-after (Watermark source t) None is = let marks = taken_marks (Watermark source t) (sym is) in (marks, ap least marks)
  marks-after e (Some r) is =
      let kept = marks-refused s.mark (new_mark e) s e r in
      let same = refused_keeps s.clock shape declared (admitted_count s.clock shape declared past) past e r (sym is) in
      (kept.0 ∙ h.marks ∙ sym same, kept.1 ∙ h.mark ∙ sym (ap least same))

  -- what is kept after an event is the history's with that event
  pub Fits-after : (e : Event) → Fits shape declared (after (decision shape declared s e) e s) (e ∷ past)
  Fits-after e =
      let v : Option Refusal = verdict_at s.clock shape declared s.marks s.admitted e in
      let same : s.clock ≡ (after (decision shape declared s e) e s).clock = sym (clock-after s.mark (new_mark e) s e v) in
      let by_history : v ≡ verdict s.clock shape declared past e = verdict_kept e in
      let marks = marks-after e v by_history in
      record {
        marks = marks.0 ∙ ap (λ (c : Clock). marks_of c declared (e ∷ past)) same;
        mark = marks.1 ∙ ap (λ (c : Clock). watermark_of c declared (e ∷ past)) same;
        admitted =
            admitted-after s.mark (new_mark e) s e v
            ∙ (λ i. admitted_with (h.admitted i) e (by_history i))
            ∙ ap (λ (c : Clock). admitted_count c shape declared (e ∷ past)) same;
        late =
            late-after s.mark (new_mark e) s e v (late_count s.clock shape declared past) h.late
            ∙ ap (λ (v : Option Refusal). counter (late_with (late_count s.clock shape declared past) v)) by_history
            ∙ ap (λ (c : Clock). counter (late_count c shape declared (e ∷ past))) same;
        refused =
            refused-after s.mark (new_mark e) s e v (refused_count s.clock shape declared past) h.refused
            ∙ ap (λ (v : Option Refusal). counter (refused_with (refused_count s.clock shape declared past) v)) by_history
            ∙ ap (λ (c : Clock). counter (refused_count c shape declared (e ∷ past))) same;
      }

  -- the same, said of what was answered and kept
  pub Fits-kept : (kept : State) (e : Event) (r : Result Admitted Refusal) → r ≡ decision shape declared s e → kept ≡ after r e s → Fits shape declared kept (e ∷ past)
  Fits-kept kept e r answered is = rw (is, answered) (Fits-after e)

-- ---- before the first event

-- there is always a source
pub some_source : (declared : Declared) → 1 ≤ source_count declared
some_source declared = some (length declared.sources) where
  some : (n : ℕ) → 1 ≤ cond (nat_eq n 0) 1 n
  some zero = omega arith
  some (suc n) = let many : nat_eq (suc n) 0 ≡ false = grind arith in subst (λ (b : Bool). 1 ≤ cond b 1 (suc n)) (sym many) (omega arith)

pub opened_fits : (c : Clock) (shape : Shape) (declared : Declared) → Fits shape declared (opened c declared) []
opened_fits c shape declared =
    let marks : replicate (source_count declared) c.start ≡ marks_of c declared [] = sym (all_start c.start 0 (source_count declared)) in
    record { marks = marks; mark = sym (least_alike c.start (source_count declared) (some_source declared)) ∙ ap least marks; admitted = refl; late = refl; refused = refl }

pub opened_range : (c : Clock) (declared : Declared) → IsWithinLimits c → IsInRange (opened c declared)
opened_range c declared in_limits = record {
  limits = in_limits;
  some = omega (arith, length-replicate (source_count declared) c.start, some_source declared);
  marks = All-replicate IsTime (source_count declared) c.start (record { low = in_limits.start_from; high = in_limits.start_to });
  least = sym (least_alike c.start (source_count declared) (some_source declared));
  mark_from = in_limits.start_from;
  mark_to = in_limits.start_to;
  admitted_to = omega arith;
}

-- ---- what may be taken, and what lies in range

pub a_time : (t : ℤ) → is_time t ≡ true → IsTime t
a_time t h = record { low = grind (arith, ints); high = grind (arith, ints) }

-- an event that no rule refuses
pub may_take : (shape : Shape) (declared : Declared) (s : State) (e : Event) → verdict_at s.clock shape declared s.marks s.admitted e ≡ None → MayTake s e
may_take shape declared s (Record k t vs) h = let room = (taken_record s.clock shape declared (least s.marks) s.admitted k t vs h).room in grind (arith, nat_tests)
may_take shape declared s (Watermark None t) h = absurd cc
may_take shape declared s (Watermark (Some n) t) h =
    elim (slice_get_cases s.marks n).1 [
      | inl is ↦ (is.1, a_time t (timely is.0 (ap (λ (m : Option ℤ). watermark_refusal m t) (sym is.2) ∙ h)))
      | inr none ↦ let unknown : watermark_refusal (slice_get s.marks n) t ≡ Some refusal.UnknownSource = ap (λ (m : Option ℤ). watermark_refusal m t) none.1 in absurd cc
    ]
  where
    by_time : (b : Bool) (o : Option Refusal) → (if not b then Some refusal.TimeRange else o) ≡ None → b ≡ true
    by_time true o k = refl
    by_time false o k = absurd cc

    timely : (m : ℤ) → watermark_refusal (Some m) t ≡ None → is_time t ≡ true
    timely m k = by_time (is_time t) _ k

least_in_range : (marks : List ℤ) → 1 ≤ length marks → All IsTime marks → IsTime (least marks)
least_in_range [] some all = absurd (omega arith)
least_in_range (m ∷ ms) some all =
    elim (fold-int_min_reached m ms (least (m ∷ ms)) refl) [
      | inl first ↦ subst IsTime (sym first) (All-head IsTime m ms all)
      | inr other ↦ All-contains IsTime ms (least (m ∷ ms)) (All-tail IsTime m ms all) other
    ]

marks_in_range : (marks : List ℤ) (n : ℕ) (t : ℤ) → IsTime t → All IsTime marks → All IsTime (slice_set marks n t)
marks_in_range marks n t h all = All-set IsTime marks n t h all

-- the state with another mark of a source
pub range_raised : (s : State) (n : ℕ) (t : ℤ) → IsInRange s → IsTime t → IsInRange (record s { marks = slice_set s.marks n t; mark = least (slice_set s.marks n t) })
range_raised s n t r h =
    let all = marks_in_range s.marks n t h r.marks in
    let some : 1 ≤ length (slice_set s.marks n t) = omega (arith, length-set s.marks n t, r.some) in
    let low = least_in_range (slice_set s.marks n t) some all in
    record { limits = r.limits; some = some; marks = all; least = refl; mark_from = low.low; mark_to = low.high; admitted_to = r.admitted_to }

-- what is kept after an answer lies in range
pub range_after : (shape : Shape) (declared : Declared) (s : State) (e : Event) → IsInRange s → IsInRange (after (decision shape declared s e) e s)
range_after shape declared s e r = by e (verdict_at s.clock shape declared s.marks s.admitted e) refl where
  by : (e : Event) (v : Option Refusal) → verdict_at s.clock shape declared s.marks s.admitted e ≡ v → IsInRange (after (answer s.mark (least (marks_with s.marks e)) e v) e s)
  by (Record k t vs) None h = let room : s.admitted < unsigned_abs s.clock.records = may_take shape declared s (Record k t vs) h in
      record { limits = r.limits; some = r.some; marks = r.marks; least = r.least; mark_from = r.mark_from; mark_to = r.mark_to; admitted_to = omega arith }
  by (Watermark None t) None h = absurd (may_take shape declared s (Watermark None t) h)
  by (Watermark (Some n) t) None h = range_raised s n t r (may_take shape declared s (Watermark (Some n) t) h).1
  by e (Some refusal.Late) h = record { limits = r.limits; some = r.some; marks = r.marks; least = r.least; mark_from = r.mark_from; mark_to = r.mark_to; admitted_to = r.admitted_to }
  by e (Some _) h = record { limits = r.limits; some = r.some; marks = r.marks; least = r.least; mark_from = r.mark_from; mark_to = r.mark_to; admitted_to = r.admitted_to }

pub range_kept : (shape : Shape) (declared : Declared) (s kept : State) (e : Event) (r : Result Admitted Refusal) → r ≡ decision shape declared s e → kept ≡ after r e s → IsInRange s → IsInRange kept
range_kept shape declared s kept e r answered is range = rw (is, answered) (range_after shape declared s e range)
