-- A history without records that came up to some time, and its needed events: which are selected, and the marks of its sources.
use Rattle.std.proofs.Common.{◌≡◌, ℕ, ◌≤◌, ◌<◌, Bool, true, false, ◌&&◌, cond, not, ◌||◌, List, [], ◌∷◌, ℤ, ◌≤ℤ◌, ◌<ℤ◌, Option, Some, None, is_none, refl, sym, ap, subst, ◌∙◌, arith}
use Rattle.std.proofs.lemmas.Int.{ints}
use Rattle.std.proofs.lemmas.Bool.{true≢false}
use Rattle.std.proofs.lemmas.Bool.Decides.{nat_tests}
use Rattle.std.proofs.lemmas.Option.{same_Some}
use Rattle.std.specs.Prelude.{filter, int_lt, nat_eq}
use Rattle.std.specs.List.{range_with_len}
use Rattle.std.specs.Int.{int_max}
use Rattle.wsm_record.specs.Event.{Event, Record, Watermark}
use Rattle.wsm_record.specs.Schema.{source_count}
use Rattle.wsm_admission.specs.declared.verdict.Refusal.{Refusal}
use Rattle.wsm_admission.specs.Clock.{source_mark, marks_of, is_time, admitted_count}
use Rattle.wsm_admission.proofs.SourceMarks.{least_rises, IsAccepted, accepted_watermark, refused_marks}
use Rattle.wsm_semantics.specs.Query.{Query, mark, verdict_on, is_taken}
use Rattle.wsm_semantics.specs.ByKey.{HasRoom}
use Rattle.wsm_semantics.specs.FromWatermark.{begun_at, Step, Stays, Goes, Times, whole, rest, LeavesOut}
use Rattle.wsm_semantics.specs.Needed.{is_selected_after, is_one_of, needed_without}
use Rattle.wsm_semantics.proofs.Decided.{no_less, none_is}
use Rattle.wsm_semantics.proofs.KeyParts.{fewer_thinned, marks_thinned, room_thinned, verdict_thinned}
use Rattle.wsm_semantics.proofs.StepTurns.{rest_is, steps_by, whole_is}
use Rattle.wsm_semantics.proofs.LaterMarks.{marks_each, source_alike}

itself : (m : ℤ) → m ≤ℤ m
itself m = omega (arith, ints)

-- ---- without records that came up to some time

module _ (q : Query) (x : Times) where
  -- a watermark, or a record of a declared key that came up after its time
  abbrev is_later : Event → Bool
  is_later (Record None t vs) = false
  is_later (Record (Some k) t vs) = int_lt (x k) t
  is_later (Watermark o t) = true

  abbrev pub steps_of : List Event → List Step
  steps_of past = steps_by is_later past

  abbrev pub later : List Event → List Event
  later past = rest (steps_of past) []

  pub steps_whole : (past : List Event) → whole (steps_of past) [] ≡ past
  steps_whole = whole_is is_later

  later_is : (past : List Event) → later past ≡ filter is_later past
  later_is = rest_is is_later

  pub steps_out : (past : List Event) → LeavesOut x (steps_of past)
  steps_out [] = tt
  steps_out (Record None t vs ∷ past) = (tt, steps_out past)
  steps_out (Record (Some k) t vs ∷ past) =
      elim (int_lt (x k) t) as (λ b. int_lt (x k) t ≡ b → LeavesOut x (cond b (Stays (Record (Some k) t vs)) (Goes (Record (Some k) t vs)) ∷ steps_of past)) [
        | true ↦ λ _. steps_out past
        | false ↦ λ old. (no_less (x k) t old, steps_out past)
      ] refl
  steps_out (Watermark o t ∷ past) = steps_out past

  pub later_marks : (past : List Event) → marks_of q.clock q.declared (later past) ≡ marks_of q.clock q.declared past
  later_marks past = ap (marks_of q.clock q.declared) (later_is past) ∙ marks_thinned is_later (λ o t. refl) q.clock q.declared past

  pub fewer : (past : List Event) → HasRoom q past → admitted_count q.clock q.shape q.declared (later past) ≤ admitted_count q.clock q.shape q.declared past
  fewer past room = subst (λ (es : List Event). admitted_count q.clock q.shape q.declared es ≤ admitted_count q.clock q.shape q.declared past) (sym (later_is past)) (fewer_thinned is_later (λ o t. refl) q past room)

  pub later_verdict : (past : List Event) (e : Event) → HasRoom q (e ∷ past) → verdict_on q (later past) e ≡ verdict_on q past e
  later_verdict past e room = ap (λ (es : List Event). verdict_on q es e) (later_is past) ∙ verdict_thinned is_later (λ o t. refl) q past e room

  pub later_room : (past : List Event) → HasRoom q past → HasRoom q (later past)
  later_room past room = subst (HasRoom q) (sym (later_is past)) (room_thinned is_later (λ o t. refl) q past room)

-- ---- the marks of sources

rises_by : (m t : ℤ) (b : Bool) → m ≤ℤ cond b (int_max m t) m
rises_by m t true = grind (arith, ints)
rises_by m t false = omega (arith, ints)

both_rise : (m n t : ℤ) (b : Bool) → m ≤ℤ n → cond b (int_max m t) m ≤ℤ cond b (int_max n t) n
both_rise m n t true h = grind (arith, ints)
both_rise m n t false h = h

rise_to : (m n t : ℤ) → m ≤ℤ n → n <ℤ t → int_max m t ≡ int_max n t
rise_to m n t h k = grind (arith, ints)

through : (a b c : ℤ) → a ≤ℤ b → b ≤ℤ c → a ≤ℤ c
through a b c h k = omega (arith, ints)

same_source : (n s : ℕ) → nat_eq n s ≡ true → n ≡ s
same_source n s h = grind (arith, nat_tests)

module _ (q : Query) (records : ℤ) (x : Times) where
  abbrev anew : Query
  anew = begun_at q.clock.start records q

  abbrev needs : List ℕ → List Event → List Event
  needs told past = needed_without q x told past

  -- the needed events have the marks of the history, but lower ones of sources whose last watermark isn't among them
  pub record Lag (told : List ℕ) (past some : List Event) : Type 0 where
    pub lower : (s : ℕ) → source_mark anew.clock s some ≤ℤ source_mark q.clock s past
    pub same : (s : ℕ) → s < source_count q.declared → is_one_of told s ≡ false → source_mark anew.clock s some ≡ source_mark q.clock s past

  -- what a watermark does to the mark of a source
  module _ (past : List Event) (n : ℕ) (t : ℤ) where
    abbrev w : Event
    w = Watermark (Some n) t

    told_again : (told : List ℕ) → is_one_of told n ≡ true → (s : ℕ) → is_one_of told s ≡ false → source_mark q.clock s past ≡ source_mark q.clock s (w ∷ past)
    told_again told again s none =
        elim (nat_eq n s) as (λ b. nat_eq n s ≡ b → source_mark q.clock s past ≡ cond (b && is_time t) (int_max (source_mark q.clock s past) t) (source_mark q.clock s past)) [
          | true ↦ λ is. absurd (true≢false (sym again ∙ ap (is_one_of told) (same_source n s is) ∙ none))
          | false ↦ λ _. refl
        ] refl

    of_refused : (v : Option Refusal) → verdict_on q past w ≡ v → is_none v ≡ false → (s : ℕ) → s < source_count q.declared → source_mark q.clock s past ≡ source_mark q.clock s (w ∷ past)
    of_refused None h refused s few = absurd (true≢false refused)
    of_refused (Some r) h refused s few = sym (source_alike q q.clock.start q.clock.records past (w ∷ past) (refused_marks q.clock q.declared past (Some n) t r h) s few)

    left : (told : List ℕ) (some : List Event) → Lag told past some → ((s : ℕ) → s < source_count q.declared → is_one_of told s ≡ false → source_mark q.clock s past ≡ source_mark q.clock s (w ∷ past)) → Lag told (w ∷ past) some
    left told some lag leaves = record {
      lower = λ s. through (source_mark anew.clock s some) (source_mark q.clock s past) (source_mark q.clock s (w ∷ past)) (lag.lower s) (rises_by (source_mark q.clock s past) t (nat_eq n s && is_time t));
      same = λ s few none. lag.same s few none ∙ leaves s few none;
    }

    pub taken : (told : List ℕ) (some : List Event) → Lag (n ∷ told) past some → IsAccepted q.clock q.declared past (Some n) t → Lag told (w ∷ past) (w ∷ some)
    taken told some lag accepted = record {
      lower = λ s. both_rise (source_mark anew.clock s some) (source_mark q.clock s past) t (nat_eq n s && is_time t) (lag.lower s);
      same = λ s few none. elim (nat_eq n s) as (λ b. nat_eq n s ≡ b → cond (b && is_time t) (int_max (source_mark anew.clock s some) t) (source_mark anew.clock s some) ≡ cond (b && is_time t) (int_max (source_mark q.clock s past) t) (source_mark q.clock s past)) [
        | true ↦ λ is.
            let number : accepted.s ≡ s = same_Some accepted.s n (sym accepted.is) ∙ same_source n s is in
            let past_mark : source_mark q.clock s past <ℤ t = subst (λ (j : ℕ). source_mark q.clock j past <ℤ t) number accepted.past_mark in
            (λ i. cond (accepted.in_time i) (int_max (source_mark anew.clock s some) t) (source_mark anew.clock s some))
            ∙ rise_to (source_mark anew.clock s some) (source_mark q.clock s past) t (lag.lower s) past_mark
            ∙ sym (λ i. cond (accepted.in_time i) (int_max (source_mark q.clock s past) t) (source_mark q.clock s past))
        | false ↦ λ apart. lag.same s few (ap (λ (b : Bool). b || is_one_of told s) apart ∙ none)
      ] refl;
    }

  pub lags : (past : List Event) (told : List ℕ) → Lag told past (needs told past)
  lags [] told = record { lower = λ s. itself q.clock.start; same = λ s few none. refl }
  lags (Record key t vs ∷ past) told =
      elim (is_selected_after q x past (Record key t vs)) as (λ b. Lag told (Record key t vs ∷ past) (cond b (Record key t vs ∷ needs [] past) (needs told past))) [
        | true ↦ let lag = lags past [] in record { lower = lag.lower; same = λ s few _. lag.same s few refl }
        | false ↦ let lag = lags past told in record { lower = lag.lower; same = lag.same }
      ]
  lags (Watermark None t ∷ past) told = let lag = lags past told in record { lower = lag.lower; same = lag.same }
  lags (Watermark (Some n) t ∷ past) told =
      elim (is_taken q past (Watermark (Some n) t)) as (λ b. is_taken q past (Watermark (Some n) t) ≡ b → Lag told (Watermark (Some n) t ∷ past) (cond (b && not (is_one_of told n)) (Watermark (Some n) t ∷ needs (n ∷ told) past) (needs told past))) [
        | true ↦ λ is. elim (is_one_of told n) as (λ b. is_one_of told n ≡ b → Lag told (Watermark (Some n) t ∷ past) (cond (not b) (Watermark (Some n) t ∷ needs (n ∷ told) past) (needs told past))) [
          | true ↦ λ again. left past n t told (needs told past) (lags past told) (λ s few none. told_again past n t told again s none)
          | false ↦ λ _. taken past n t told (needs (n ∷ told) past) (lags past (n ∷ told)) (accepted_watermark q.clock q.declared past (Some n) t (none_is (verdict_on q past (Watermark (Some n) t)) is))
        ] refl
        | false ↦ λ refused. left past n t told (needs told past) (lags past told) (λ s few _. of_refused past n t (verdict_on q past (Watermark (Some n) t)) refl refused s few)
      ] refl

  pub below : (past some : List Event) (told : List ℕ) → Lag told past some → mark anew some ≤ℤ mark q past
  below past some told lag = least_rises (λ s. source_mark anew.clock s some) (λ s. source_mark q.clock s past) (range_with_len 0 (source_count q.declared)) lag.lower

  pub needed_marks : (past : List Event) → marks_of anew.clock anew.declared (needs [] past) ≡ marks_of q.clock q.declared past
  needed_marks past = let lag = lags past [] in marks_each (λ s. source_mark anew.clock s (needs [] past)) (λ s. source_mark q.clock s past) 0 (source_count q.declared) (λ s few. lag.same s (omega arith) refl)
