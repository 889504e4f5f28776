-- Two histories with the same marks, the second by a query that is begun anew: an event that comes next leaves the same
-- marks, and where none is refused for RECORDS it has the same verdict and does the same.
use Rattle.std.proofs.Common.{◌≡◌, ◌≢◌, ℕ, zero, suc, ◌+◌, ◌<◌, Bool, ◌&&◌, cond, not, List, [], ◌∷◌, map, length, ℤ, Option, Some, None, refl, sym, ap, ◌∙◌, arith}
use Rattle.std.proofs.lemmas.Option.{same_Some}
use Rattle.std.specs.Prelude.{int_lt, is_none, nat_le, unsigned_abs}
use Rattle.std.specs.List.{range_with_len}
use Rattle.std.specs.Int.{int_max}
use Rattle.wsm_record.specs.Event.{Event, Record, Watermark}
use Rattle.wsm_record.specs.Schema.{fit_fields, source_count}
use Rattle.wsm_admission.specs.declared.verdict.Refusal.{Refusal}
use Rattle.wsm_admission.specs.declared.verdict.Refusal.TheVariants.{RecordLimit}
use Rattle.wsm_admission.specs.Clock.{source_mark, marks_of, least, is_source, is_time, is_key, is_too_far_ahead, is_late, admitted_count, watermark_refusal, mark_at}
use Rattle.wsm_admission.proofs.SourceMarks.{mark_of_source}
use Rattle.wsm_semantics.specs.Query.{Query, datum, mark, raises, verdict_on, is_taken, Selects, Rises, Nothing, effect_of}
use Rattle.wsm_semantics.specs.ByKey.{HasRoom, at_turn}
use Rattle.wsm_semantics.specs.FromWatermark.{begun_at, Step, Stays, Goes, whole, rest, Times, LeavesOut}
use Rattle.wsm_semantics.proofs.Effects.{effect_with, selects-with, rises-with}
use Rattle.wsm_semantics.proofs.KeyParts.{either_number, first_rule}

pub marks_each : (f g : ℕ → ℤ) (a n : ℕ) → ((s : ℕ) → s < a + n → f s ≡ g s) → map f (range_with_len a n) ≡ map g (range_with_len a n)
marks_each f g a zero same = refl
marks_each f g a (suc n) same = λ i. same a (omega arith) i ∷ marks_each f g (a + 1) n (λ s h. same s (omega arith)) i

module _ (q : Query) (start records : ℤ) where
  abbrev pub anew : Query
  anew = begun_at start records q

  module _ (past other : List Event) (same : marks_of anew.clock anew.declared other ≡ marks_of q.clock q.declared past) where
    pub mark_alike : mark anew other ≡ mark q past
    mark_alike = ap least same

    pub source_alike : (s : ℕ) → s < source_count q.declared → source_mark anew.clock s other ≡ source_mark q.clock s past
    source_alike s few =
        same_Some (source_mark anew.clock s other) (source_mark q.clock s past)
        (sym (mark_of_source anew.clock anew.declared other s few) ∙ ap (λ (ms : List ℤ). mark_at ms (Some s)) same ∙ mark_of_source q.clock q.declared past s few)

    next_source : (e : Event) (s : ℕ) → s < source_count q.declared → source_mark anew.clock s (e ∷ other) ≡ source_mark q.clock s (e ∷ past)
    next_source (Record key t vs) s few = source_alike s few
    next_source (Watermark o t) s few = ap (λ (m : ℤ). cond (is_source s o && is_time t) (int_max m t) m) (source_alike s few)

    pub next_marks : (e : Event) → marks_of anew.clock anew.declared (e ∷ other) ≡ marks_of q.clock q.declared (e ∷ past)
    next_marks e = marks_each (λ s. source_mark anew.clock s (e ∷ other)) (λ s. source_mark q.clock s (e ∷ past)) 0 (source_count q.declared) (λ s few. next_source e s (omega arith))

    pub verdict_alike : (e : Event) → verdict_on q past e ≢ Some RecordLimit → verdict_on anew other e ≢ Some RecordLimit → verdict_on anew other e ≡ verdict_on q past e
    verdict_alike (Watermark o t) h k = ap (λ (ms : List ℤ). watermark_refusal (mark_at ms o) t) same
    verdict_alike (Record key t vs) h k =
        let first : ℤ → Bool → Option Refusal = λ m full. first_rule (not (is_key q.declared key)) (not (fit_fields q.declared.fields vs)) (not (is_time t)) (is_too_far_ahead q.clock m t) (is_late q.clock q.shape m t) full in
        let by_anew : Bool = nat_le (unsigned_abs records) (admitted_count anew.clock q.shape q.declared other) in
        let moved : first (mark anew other) by_anew ≡ first (mark q past) by_anew = ap (λ (m : ℤ). first m by_anew) mark_alike in
        moved
        ∙ either_number (not (is_key q.declared key)) (not (fit_fields q.declared.fields vs)) (not (is_time t)) (is_too_far_ahead q.clock (mark q past) t) (is_late q.clock q.shape (mark q past) t)
        by_anew (nat_le (unsigned_abs q.clock.records) (admitted_count q.clock q.shape q.declared past)) (λ limit. k (moved ∙ limit)) h

    -- it does the same, its record at another turn
    pub effect_alike : (f : ℕ → ℕ) → f (length other) ≡ length past → (e : Event) → verdict_on anew other e ≡ verdict_on q past e → effect_of q past e ≡ effect_with (at_turn f) (effect_of anew other e)
    effect_alike f turn (Record None t vs) verdict = refl
    effect_alike f turn (Record (Some k) t vs) verdict =
        sym (λ i. cond (is_none (verdict i) && q.selects k vs) (Selects (datum (turn i) (mark_alike i) k t vs)) Nothing)
        ∙ selects-with (at_turn f) (datum (length other) (mark anew other) k t vs) (is_taken anew other (Record (Some k) t vs) && q.selects k vs)
    effect_alike f turn (Watermark o t) verdict =
        let e : Event = Watermark o t in
        let new : mark anew (e ∷ other) ≡ mark q (e ∷ past) = ap least (next_marks e) in
        sym (λ i. cond (int_lt (mark_alike i) (new i)) (Rises (mark_alike i) (new i)) Nothing)
        ∙ rises-with (at_turn f) (mark anew other) (mark anew (e ∷ other)) (raises anew other e)

  -- ---- steps

  module _ (x : Times) (older other : List Event) (same : marks_of anew.clock anew.declared other ≡ marks_of q.clock q.declared older) where
    pub marks_of_steps : (steps : List Step) → LeavesOut x steps → marks_of anew.clock anew.declared (rest steps other) ≡ marks_of q.clock q.declared (whole steps older)
    marks_of_steps [] out = same
    marks_of_steps (Stays e ∷ steps) out = next_marks (whole steps older) (rest steps other) (marks_of_steps steps out) e
    marks_of_steps (Goes (Record key t vs) ∷ steps) out = marks_of_steps steps out.1
    marks_of_steps (Goes (Watermark o t) ∷ steps) out = absurd out.0

    pub mark_of_steps : (steps : List Step) → LeavesOut x steps → mark anew (rest steps other) ≡ mark q (whole steps older)
    mark_of_steps steps out = ap least (marks_of_steps steps out)

    pub verdict_of_steps : (steps : List Step) → LeavesOut x steps → (e : Event) → HasRoom q (e ∷ whole steps older) → HasRoom anew (e ∷ rest steps other) →
        verdict_on anew (rest steps other) e ≡ verdict_on q (whole steps older) e
    verdict_of_steps steps out e room room_anew = verdict_alike (whole steps older) (rest steps other) (marks_of_steps steps out) e room.0 room_anew.0
