-- The needed events of a history are taken as they were in the whole.
use Rattle.std.proofs.Common.{◌≡◌, ◌≢◌, ℕ, ◌≤◌, Bool, true, false, ◌&&◌, cond, not, List, [], ◌∷◌, ℤ, ◌≤ℤ◌, ◌<ℤ◌, Option, Some, None, refl, sym, ap, subst, ◌∙◌, arith}
use Rattle.std.proofs.lemmas.Int.{ints}
use Rattle.std.proofs.lemmas.Bool.{and_parts}
use Rattle.std.specs.Prelude.{int_le, int_lt}
use Rattle.wsm_record.specs.Event.{Event, Record, Watermark}
use Rattle.wsm_admission.specs.declared.verdict.Refusal.{Refusal}
use Rattle.wsm_admission.specs.declared.verdict.Refusal.TheVariants.{NotRising, RecordLimit, TimeRange}
use Rattle.wsm_admission.specs.Clock.{admitted_count, admitted_with, is_time, mark_at, marks_of, source_mark, verdict_at, watermark_refusal}
use Rattle.wsm_admission.proofs.SourceMarks.{IsAccepted, accepted_watermark, mark_of_source}
use Rattle.wsm_semantics.specs.Query.{Query, is_taken, verdict_on}
use Rattle.wsm_semantics.specs.FromWatermark.{Times}
use Rattle.wsm_semantics.specs.Needed.{is_one_of, is_selected_after, needed_without}
use Rattle.wsm_semantics.proofs.Decided.{none_is}
use Rattle.wsm_semantics.proofs.KeyParts.{fewer_admitted, no_fewer, one_more}
use Rattle.wsm_semantics.proofs.NeededMarks.{Lag, lags, needed_marks}

no_limit : (v : Option Refusal) → v ≡ None → v ≢ Some RecordLimit
no_limit None h = λ k. absurd (cc k)
no_limit (Some r) h = λ k. absurd (cc h)

module _ (q : Query) (x : Times) where
  abbrev count : List Event → ℕ
  count past = admitted_count q.clock q.shape q.declared past

  abbrev needs : List ℕ → List Event → List Event
  needs told past = needed_without q x told past

  -- ---- verdicts

  same_verdict : (past : List Event) (e : Event) → count (needs [] past) ≤ count past → verdict_on q past e ≡ None → verdict_on q (needs [] past) e ≡ None
  same_verdict past e fewer none =
      ap (λ (ms : List ℤ). verdict_at q.clock q.shape q.declared ms (count (needs [] past)) e) (needed_marks q q.clock.records x past)
      ∙ fewer_admitted q.clock q.shape q.declared (marks_of q.clock q.declared past) (count (needs [] past)) (count past) e fewer (no_limit (verdict_on q past e) none)
      ∙ none

  taken_of : (past : List Event) (k : ℕ) (t : ℤ) (vs : _) (b : Bool) → (b && (is_taken q past (Record (Some k) t vs) && q.selects k vs)) ≡ true →
      (b ≡ true) × (verdict_on q past (Record (Some k) t vs) ≡ None) × (q.selects k vs ≡ true)
  taken_of past k t vs b h =
      let later = and_parts b (is_taken q past (Record (Some k) t vs) && q.selects k vs) h in
      let both = and_parts (is_taken q past (Record (Some k) t vs)) (q.selects k vs) later.1 in
      (later.0, none_is (verdict_on q past (Record (Some k) t vs)) both.0, both.1)

  pub fewer : (past : List Event) (told : List ℕ) → count (needs told past) ≤ count past
  fewer [] told = omega arith
  fewer (Record None t vs ∷ past) told = no_fewer (count (needs told past)) (count past) (Record None t vs) (verdict_on q past (Record None t vs)) (fewer past told)
  fewer (Record (Some k) t vs ∷ past) told =
      let e : Event = Record (Some k) t vs in
      elim (is_selected_after q x past e) as (λ b. is_selected_after q x past e ≡ b → count (cond b (e ∷ needs [] past) (needs told past)) ≤ count (e ∷ past)) [
        | true ↦ λ h.
            let before = fewer past [] in
            let none = (taken_of past k t vs (int_lt (x k) t) h).1 in
            subst (λ (r : Option Refusal). admitted_with (count (needs [] past)) e r ≤ admitted_with (count past) e (verdict_on q past e)) (none ∙ sym (same_verdict past e before none))
            (one_more (count (needs [] past)) (count past) e (verdict_on q past e) before)
        | false ↦ λ _. no_fewer (count (needs told past)) (count past) e (verdict_on q past e) (fewer past told)
      ] refl
  fewer (Watermark None t ∷ past) told = fewer past told
  fewer (Watermark (Some n) t ∷ past) told =
      elim (is_taken q past (Watermark (Some n) t) && not (is_one_of told n)) as (λ b. count (cond b (Watermark (Some n) t ∷ needs (n ∷ told) past) (needs told past)) ≤ count past) [
        | true ↦ fewer past (n ∷ told)
        | false ↦ fewer past told
      ]

  pub record_taken : (past : List Event) (e : Event) → verdict_on q past e ≡ None → verdict_on q (needs [] past) e ≡ None
  record_taken past e none = same_verdict past e (fewer past []) none

  accepts : (m t : ℤ) → is_time t ≡ true → m <ℤ t → watermark_refusal (Some m) t ≡ None
  accepts m t in_time h =
      let rises : int_le t m ≡ false = grind (arith, ints) in
      λ i. cond (not (in_time i)) (Some TimeRange) (cond (rises i) (Some NotRising) None)

  lower : (a b t : ℤ) → a ≤ℤ b → b <ℤ t → a <ℤ t
  lower a b t h k = omega (arith, ints)

  watermark_taken : (past : List Event) (told : List ℕ) (n : ℕ) (t : ℤ) → verdict_on q past (Watermark (Some n) t) ≡ None → verdict_on q (needs told past) (Watermark (Some n) t) ≡ None
  watermark_taken past told n t none =
      let a : IsAccepted q.clock q.declared past (Some n) t = accepted_watermark q.clock q.declared past (Some n) t none in
      let some : List Event = needs told past in
      let lag : Lag q q.clock.records x told past some = lags q q.clock.records x past told in
      ap (λ (o : Option ℕ). watermark_refusal (mark_at (marks_of q.clock q.declared some) o) t) a.is
      ∙ ap (λ (m : Option ℤ). watermark_refusal m t) (mark_of_source q.clock q.declared some a.s a.few)
      ∙ accepts (source_mark q.clock a.s some) t a.in_time (lower (source_mark q.clock a.s some) (source_mark q.clock a.s past) t (lag.lower a.s) a.past_mark)

  -- each event of a history is taken
  abbrev pub AllTaken : List Event → Type 0
  AllTaken [] = Unit {0}
  AllTaken (e ∷ past) = (verdict_on q past e ≡ None) × AllTaken past

  pub all_taken : (past : List Event) (told : List ℕ) → AllTaken (needs told past)
  all_taken [] told = tt
  all_taken (Record None t vs ∷ past) told = all_taken past told
  all_taken (Record (Some k) t vs ∷ past) told =
      let e : Event = Record (Some k) t vs in
      elim (is_selected_after q x past e) as (λ b. is_selected_after q x past e ≡ b → AllTaken (cond b (e ∷ needs [] past) (needs told past))) [
        | true ↦ λ h. (record_taken past e (taken_of past k t vs (int_lt (x k) t) h).1, all_taken past [])
        | false ↦ λ _. all_taken past told
      ] refl
  all_taken (Watermark None t ∷ past) told = all_taken past told
  all_taken (Watermark (Some n) t ∷ past) told =
      let w : Event = Watermark (Some n) t in
      elim (is_taken q past w && not (is_one_of told n)) as (λ b. (is_taken q past w && not (is_one_of told n)) ≡ b → AllTaken (cond b (w ∷ needs (n ∷ told) past) (needs told past))) [
        | true ↦ λ h. (watermark_taken past (n ∷ told) n t (none_is (verdict_on q past w) (and_parts (is_taken q past w) (not (is_one_of told n)) h).0), all_taken past (n ∷ told))
        | false ↦ λ _. all_taken past told
      ] refl
