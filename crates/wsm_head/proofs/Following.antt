-- What follows on a history and on one that stands for it.
use Rattle.std.proofs.Common.{◌≡◌, ◌⊎◌, ℕ, ◌+◌, Bool, not, List, ◌∷◌, ℤ, pos, ◌≤ℤ◌, Option, Some, None, inl, inr, sym, ap, ◌∙◌, arith}
use Rattle.std.proofs.lemmas.Bool.Decides.{nat_tests}
use Rattle.std.specs.Prelude.{nat_le, unsigned_abs}
use Rattle.wsm_record.specs.declared.words.Form.TheVariants as form
use Rattle.wsm_record.specs.Event.{Event, Record, Watermark}
use Rattle.wsm_record.specs.Schema.{fit_fields}
use Rattle.wsm_windows.specs.Windows.{IsShape}
use Rattle.wsm_admission.specs.declared.verdict.Refusal.{Refusal}
use Rattle.wsm_admission.specs.Clock.{admitted_with, is_key, is_late, is_time, is_too_far_ahead, mark_at, watermark_refusal}
use Rattle.wsm_semantics.specs.Query.{Query, SessionsByEvent, mark, verdict_on}
use Rattle.wsm_semantics.specs.Relation.{relation, turn_rows}
use Rattle.wsm_semantics.specs.Summaries.{IsLawful, Plan, Runs}
use Rattle.wsm_semantics.specs.ByKey.{with_records}
use Rattle.wsm_semantics.proofs.KeyParts.{first_rule}
use Rattle.wsm_semantics.proofs.KeptAlike.{next_alike, relation_alike, rows_alike, streams_alike}
use Rattle.wsm_semantics.proofs.LaterMarks.{mark_alike}
use Rattle.wsm_head.specs.StandsFor.{Follows, StandsFor, taken}

-- with as many left, RECORDS are used up by both or by neither
full_alike : (r n a b : ℕ) → r + a ≡ n + b → nat_le r b ≡ nat_le n a
full_alike r n a b left = grind (arith, nat_tests)

-- as many are left behind an event with the same verdict
left_on : (r n a b : ℕ) (e : Event) (v : Option Refusal) → r + a ≡ n + b → r + admitted_with a e v ≡ n + admitted_with b e v
left_on r n a b (Watermark o t) v left = left
left_on r n a b (Record key t vs) None left = omega (arith, left)
left_on r n a b (Record key t vs) (Some why) left = left

module _ {X : Type 0} (plan : Plan X) (lawful : IsLawful plan) (q : Query) (runs : Runs plan q) (ok : IsShape q.shape) (timely : SessionsByEvent q) (low : pos 0 ≤ℤ q.clock.lateness) (records : ℤ) where
  abbrev other_query : Query
  other_query = with_records records q

  module _ (past other : List Event) (stands : StandsFor plan q records past other) where
    verdict_alike : (e : Event) → verdict_on other_query other e ≡ verdict_on q past e
    verdict_alike (Watermark o t) = ap (λ (ms : List ℤ). watermark_refusal (mark_at ms o) t) stands.kept.marks
    verdict_alike (Record key t vs) =
        let first : ℤ → Bool → Option Refusal = λ m full. first_rule (not (is_key q.declared key)) (not (fit_fields q.declared.fields vs)) (not (is_time t)) (is_too_far_ahead q.clock m t) (is_late q.clock q.shape m t) full in
        let full = full_alike (unsigned_abs records) (unsigned_abs q.clock.records) (taken q past) (taken other_query other) stands.left in
        ap (λ (m : ℤ). first m (nat_le (unsigned_abs records) (taken other_query other))) (mark_alike q q.clock.start records past other stands.kept.marks)
        ∙ ap (first (mark q past)) full

    module _ (e : Event) where
      rows_by : (q.form ≡ form.Panes) ⊎ (relation q past ≡ relation other_query other) → turn_rows q past e ≡ turn_rows other_query other e
      rows_by (inl panes) = rows_alike plan lawful q runs ok timely low q.clock.start records past other stands.kept e (verdict_alike e) panes
      rows_by (inr same) = streams_alike plan lawful q runs ok timely low q.clock.start records past other stands.kept e (verdict_alike e) same

      relation_by : (q.form ≡ form.Panes) ⊎ (relation q past ≡ relation other_query other) → (q.form ≡ form.Panes) ⊎ (relation q (e ∷ past) ≡ relation other_query (e ∷ other))
      relation_by (inl panes) = inl panes
      relation_by (inr same) = inr (relation_alike plan lawful q runs ok timely low q.clock.start records past other stands.kept e (verdict_alike e) same)

      pub follows : Follows plan q records past other e
      follows = record {
        verdict = verdict_alike e;
        rows = sym (rows_by stands.relation);
        stands = record {
          kept = next_alike plan lawful q runs ok timely low q.clock.start records past other stands.kept e (verdict_alike e);
          relation = relation_by stands.relation;
          left =
              left_on (unsigned_abs records) (unsigned_abs q.clock.records) (taken q past) (taken other_query other) e (verdict_on q past e) stands.left
              ∙ ap (λ (v : Option Refusal). unsigned_abs q.clock.records + admitted_with (taken other_query other) e v) (sym (verdict_alike e));
        };
      }
