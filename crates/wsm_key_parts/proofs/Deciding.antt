-- A front may decide by places in place of keys.
use Rattle.std.proofs.Common.{◌≡◌, ℕ, ◌<◌, Bool, true, not, List, length, Option, Some, None, Result, Ok, Err, refl, sym, ap, ◌∙◌}
use Rattle.std.proofs.Math.Nat.{mod-lt}
use Rattle.std.proofs.lemmas.Bool.{lt-ltb}
use Rattle.std.specs.Prelude.{◌%◌, nat_le, nat_lt, unsigned_abs}
use Rattle.wsm_record.specs.Event.{Event, Record, Watermark}
use Rattle.wsm_record.specs.Schema.{fit_fields}
use Rattle.wsm_admission.specs.declared.verdict.Admitted.{Admitted}
use Rattle.wsm_admission.specs.declared.verdict.Admitted.TheVariants as admitted
use Rattle.wsm_admission.specs.declared.verdict.Refusal.{Refusal}
use Rattle.wsm_admission.specs.declared.verdict.Refusal.TheVariants as refusal
use Rattle.wsm_admission.specs.Clock.{is_time, is_too_far_ahead, is_late, least}
use Rattle.wsm_admission.specs.Admission.{State, after, answer, decision}
use Rattle.wsm_semantics.specs.Query.{Query}
use Rattle.wsm_semantics.specs.ByKey.{is_of}
use Rattle.wsm_semantics.proofs.KeyParts.{first_rule}
use Rattle.wsm_key_parts.specs.Parts.{declared_keys, placed, DecidesByPlaces}

module _ (places : List (List ℕ)) (q : Query) (some : 0 < length places) where
  is_place : (n : ℕ) → nat_lt (n % length places) (length places) ≡ true
  is_place n = lt-ltb (n % length places) (length places) (mod-lt n some)

  same_decision : (s : State) (e : Event) → is_of (declared_keys q) e ≡ true →
      decision q.shape (record q.declared { keys = places }) s (placed (length places) e) ≡ decision q.shape q.declared s e
  same_decision s (Watermark source t) known = refl
  same_decision s (Record None t vs) known = refl
  same_decision s (Record (Some n) t vs) known =
      let by : Bool → Option Refusal = λ key.
      first_rule (not key) (not (fit_fields q.declared.fields vs)) (not (is_time t)) (is_too_far_ahead s.clock (least s.marks) t) (is_late s.clock q.shape (least s.marks) t)
      (nat_le (unsigned_abs s.clock.records) s.admitted) in
      by_verdict (by (nat_lt (n % length places) (length places))) ∙ ap (answer s.mark (least s.marks) (Record (Some n) t vs)) (ap by (is_place n) ∙ sym (ap by known))
    where
      by_verdict : (v : Option Refusal) → answer s.mark (least s.marks) (Record (Some (n % length places)) t vs) v ≡ answer s.mark (least s.marks) (Record (Some n) t vs) v
      by_verdict None = refl
      by_verdict (Some r) = refl

  same_after : (s : State) (e : Event) (r : Result Admitted Refusal) → after r (placed (length places) e) s ≡ after r e s
  same_after s e (Ok admitted.Record) = refl
  same_after s (Record k t vs) (Ok (admitted.Watermark old new)) = refl
  same_after s (Watermark source t) (Ok (admitted.Watermark old new)) = refl
  same_after s e (Err refusal.Late) = refl
  same_after s e (Err _) = refl

  pub decides_by_places : DecidesByPlaces places q
  decides_by_places = record { decision = same_decision; after = same_after }
