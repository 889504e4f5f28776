-- A history without some of its records, as a part that has those of some keys alone: it has the marks of the whole, and where
-- none is refused for RECORDS its events have the verdicts of the whole.
use Rattle.std.proofs.Common.{◌≡◌, ℕ, ◌≤◌, Bool, true, false, ◌&&◌, cond, not, List, [], ◌∷◌, map, ℤ, Option, Some, None, refl, sym, ap, subst, ◌∙◌, arith}
use Rattle.std.proofs.lemmas.Bool.{true≢false}
use Rattle.std.proofs.lemmas.Bool.Decides.{nat_tests}
use Rattle.std.specs.Prelude.{◌≢◌, filter, nat_le, unsigned_abs}
use Rattle.std.specs.List.{range_with_len}
use Rattle.std.specs.Int.{int_max}
use Rattle.wsm_record.specs.Event.{Event, Record, Watermark}
use Rattle.wsm_record.specs.Schema.{Declared, fit_fields, source_count}
use Rattle.wsm_windows.specs.declared.window.Shape.{Shape}
use Rattle.wsm_admission.specs.declared.clock.Clock.{Clock}
use Rattle.wsm_admission.specs.declared.verdict.Refusal.{Refusal}
use Rattle.wsm_admission.specs.declared.verdict.Refusal.TheVariants.{UnknownKey, FieldRange, TimeRange, TooFarAhead, Late, RecordLimit}
use Rattle.wsm_admission.specs.Clock.{source_mark, marks_of, least, is_source, is_time, is_key, is_too_far_ahead, is_late, admitted_count, admitted_with, verdict_at}
use Rattle.wsm_semantics.specs.Query.{Query, mark, verdict_on}
use Rattle.wsm_semantics.specs.ByKey.{Keys, is_of, of_keys, HasRoom, SameVerdicts}

-- ---- marks

module _ (t : Event → Bool) (told : (o : Option ℕ) (u : ℤ) → t (Watermark o u) ≡ true) where
  source_thinned : (c : Clock) (s : ℕ) (past : List Event) → source_mark c s (filter t past) ≡ source_mark c s past
  source_thinned c s [] = refl
  source_thinned c s (Record key u vs ∷ past) =
      elim (t (Record key u vs)) as (λ b. source_mark c s (cond b (Record key u vs ∷ filter t past) (filter t past)) ≡ source_mark c s past) [
        | true ↦ source_thinned c s past
        | false ↦ source_thinned c s past
      ]
  source_thinned c s (Watermark o u ∷ past) =
      ap (λ (b : Bool). source_mark c s (cond b (Watermark o u ∷ filter t past) (filter t past))) (told o u)
      ∙ ap (λ (m : ℤ). cond (is_source s o && is_time u) (int_max m u) m) (source_thinned c s past)

  pub marks_thinned : (c : Clock) (declared : Declared) (past : List Event) → marks_of c declared (filter t past) ≡ marks_of c declared past
  marks_thinned c declared past i = map (λ s. source_thinned c s past i) (range_with_len 0 (source_count declared))

-- ---- verdicts

-- the first rule that refuses, of which the last is the limit of admitted records
abbrev pub first_rule : Bool → Bool → Bool → Bool → Bool → Bool → Option Refusal
first_rule key fields time ahead late full =
    cond key (Some UnknownKey) (cond fields (Some FieldRange) (cond time (Some TimeRange) (cond ahead (Some TooFarAhead) (cond late (Some Late) (cond full (Some RecordLimit) None)))))

same_rule : (key fields time ahead late few many : Bool) → (few ≡ true → many ≡ true) → first_rule key fields time ahead late many ≢ Some RecordLimit →
    first_rule key fields time ahead late few ≡ first_rule key fields time ahead late many
same_rule true fields time ahead late few many h k = refl
same_rule false true time ahead late few many h k = refl
same_rule false false true ahead late few many h k = refl
same_rule false false false true late few many h k = refl
same_rule false false false false true few many h k = refl
same_rule false false false false false few true h k = absurd (k refl)
same_rule false false false false false false false h k = refl
same_rule false false false false false true false h k = absurd (true≢false (sym (h refl)))

-- where the limit refuses by neither number, the same rule does or none
pub either_number : (key fields time ahead late few many : Bool) → first_rule key fields time ahead late few ≢ Some RecordLimit → first_rule key fields time ahead late many ≢ Some RecordLimit →
    first_rule key fields time ahead late few ≡ first_rule key fields time ahead late many
either_number true fields time ahead late few many h k = refl
either_number false true time ahead late few many h k = refl
either_number false false true ahead late few many h k = refl
either_number false false false true late few many h k = refl
either_number false false false false true few many h k = refl
either_number false false false false false true many h k = absurd (h refl)
either_number false false false false false false true h k = absurd (k refl)
either_number false false false false false false false h k = refl

still_full : (r few many : ℕ) → few ≤ many → nat_le r few ≡ true → nat_le r many ≡ true
still_full r few many h k = grind (arith, nat_tests)

module _ (c : Clock) (shape : Shape) (declared : Declared) where
  -- fewer admitted records give the same verdict, where the limit doesn't
  pub fewer_admitted : (marks : List ℤ) (few many : ℕ) (e : Event) → few ≤ many → verdict_at c shape declared marks many e ≢ Some RecordLimit → verdict_at c shape declared marks few e ≡ verdict_at c shape declared marks many e
  fewer_admitted marks few many (Watermark o t) h k = refl
  fewer_admitted marks few many (Record key t vs) h k =
      same_rule (not (is_key declared key)) (not (fit_fields declared.fields vs)) (not (is_time t)) (is_too_far_ahead c (least marks) t) (is_late c shape (least marks) t)
      (nat_le (unsigned_abs c.records) few) (nat_le (unsigned_abs c.records) many) (still_full (unsigned_abs c.records) few many h) k

pub one_more : (few many : ℕ) (e : Event) (v : Option Refusal) → few ≤ many → admitted_with few e v ≤ admitted_with many e v
one_more few many (Watermark o t) v h = h
one_more few many (Record key t vs) None h = omega arith
one_more few many (Record key t vs) (Some r) h = h

pub no_fewer : (few many : ℕ) (e : Event) (v : Option Refusal) → few ≤ many → few ≤ admitted_with many e v
no_fewer few many (Watermark o t) v h = h
no_fewer few many (Record key t vs) None h = omega arith
no_fewer few many (Record key t vs) (Some r) h = h

module _ (t : Event → Bool) (told : (o : Option ℕ) (u : ℤ) → t (Watermark o u) ≡ true) (q : Query) where
  abbrev admitted : List Event → ℕ
  admitted past = admitted_count q.clock q.shape q.declared past

  -- with fewer admitted records an event has the verdict of the whole
  verdict_by : (past : List Event) (e : Event) → admitted (filter t past) ≤ admitted past → verdict_on q past e ≢ Some RecordLimit → verdict_on q (filter t past) e ≡ verdict_on q past e
  verdict_by past e fewer h =
      ap (λ (ms : List ℤ). verdict_at q.clock q.shape q.declared ms (admitted (filter t past)) e) (marks_thinned t told q.clock q.declared past)
      ∙ fewer_admitted q.clock q.shape q.declared (marks_of q.clock q.declared past) (admitted (filter t past)) (admitted past) e fewer h

  pub fewer_thinned : (past : List Event) → HasRoom q past → admitted (filter t past) ≤ admitted past
  fewer_thinned [] h = omega arith
  fewer_thinned (e ∷ past) h =
      let before : admitted (filter t past) ≤ admitted past = fewer_thinned past h.1 in
      elim (t e) as (λ b. admitted (cond b (e ∷ filter t past) (filter t past)) ≤ admitted_with (admitted past) e (verdict_on q past e)) [
        | true ↦ subst (λ (v : Option Refusal). admitted_with (admitted (filter t past)) e v ≤ admitted_with (admitted past) e (verdict_on q past e)) (sym (verdict_by past e before h.0))
            (one_more (admitted (filter t past)) (admitted past) e (verdict_on q past e) before)
        | false ↦ no_fewer (admitted (filter t past)) (admitted past) e (verdict_on q past e) before
      ]

  pub verdict_thinned : (past : List Event) (e : Event) → HasRoom q (e ∷ past) → verdict_on q (filter t past) e ≡ verdict_on q past e
  verdict_thinned past e h = verdict_by past e (fewer_thinned past h.1) h.0

  pub room_thinned : (past : List Event) → HasRoom q past → HasRoom q (filter t past)
  room_thinned [] h = tt
  room_thinned (e ∷ past) h =
      elim (t e) as (λ b. HasRoom q (cond b (e ∷ filter t past) (filter t past))) [
        | true ↦ (λ full. h.0 (sym (verdict_thinned past e h) ∙ full), room_thinned past h.1)
        | false ↦ room_thinned past h.1
      ]

-- ---- a part

pub marks_of_part : (c : Clock) (declared : Declared) (keys : Keys) (past : List Event) → marks_of c declared (of_keys keys past) ≡ marks_of c declared past
marks_of_part c declared keys = marks_thinned (is_of keys) (λ o u. refl) c declared

pub mark_of_part : (q : Query) (keys : Keys) (past : List Event) → mark q (of_keys keys past) ≡ mark q past
mark_of_part q keys past = ap least (marks_of_part q.clock q.declared keys past)

pub verdict_of_part : (q : Query) (keys : Keys) → SameVerdicts q keys
verdict_of_part q keys = verdict_thinned (is_of keys) (λ o u. refl) q

pub room_of_part : (q : Query) (keys : Keys) (past : List Event) → HasRoom q past → HasRoom q (of_keys keys past)
room_of_part q keys = room_thinned (is_of keys) (λ o u. refl) q
