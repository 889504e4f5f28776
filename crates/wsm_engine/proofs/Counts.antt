-- Counts beside those of an admission: what it decides by its own count, and what the counts together come to.
use Rattle.std.proofs.Common.{◌≡◌, ℕ, ◌+◌, Bool, true, false, ◌&&◌, cond, List, ℤ, Option, Some, None, Ok, Err, Result, refl, sym, ap, ◌∙◌, arith}
use Rattle.std.proofs.lemmas.Bool.{true≢false}
use Rattle.std.proofs.lemmas.Bool.Decides.{nat_tests}
use Rattle.std.specs.Prelude.{nat_le, not, if◌then◌else◌, unsigned_abs}
use Rattle.wsm_record.specs.declared.event.Value.{Value}
use Rattle.wsm_record.specs.Event.{Event, Record, Watermark}
use Rattle.wsm_record.specs.Schema.{Declared, fit_fields}
use Rattle.wsm_windows.specs.declared.window.Shape.{Shape}
use Rattle.wsm_admission.specs.declared.verdict.Admitted.{Admitted}
use Rattle.wsm_admission.specs.declared.verdict.Admitted.TheVariants as admitted
use Rattle.wsm_admission.specs.declared.verdict.Refusal.{Refusal}
use Rattle.wsm_admission.specs.declared.verdict.Refusal.TheVariants as refusal
use Rattle.wsm_admission.specs.Clock.{is_key, is_time, is_too_far_ahead, is_late, least, mark_at, watermark_refusal}
use Rattle.wsm_admission.specs.Admission.{State, answer, decision, marks_with}
use Rattle.wsm_engine.specs.Counts.{with_counts, is_record}

-- an answer where the limit is looked at behind it
abbrev pub behind_limit : Bool → Result Admitted Refusal → Result Admitted Refusal
behind_limit full answer = if full && is_record answer then Err refusal.RecordLimit else answer

abbrev first_of : (a b c d e f : Bool) → Option Refusal
first_of a b c d e f =
    if not a then Some refusal.UnknownKey
    else if not b then Some refusal.FieldRange
    else if not c then Some refusal.TimeRange
    else if d then Some refusal.TooFarAhead
    else if e then Some refusal.Late
    else if f then Some refusal.RecordLimit
    else None

refused_still : (full : Bool) (r : Refusal) → Err r ≡ behind_limit full (Err r)
refused_still true r = refl
refused_still false r = refl

raised_still : (full : Bool) (old new : ℤ) → Ok (admitted.Watermark old new) ≡ behind_limit full (Ok (admitted.Watermark old new))
raised_still true old new = refl
raised_still false old new = refl

module _ (old new : ℤ) (k : Option ℕ) (t : ℤ) (vs : List Value) where
  abbrev answered : Option Refusal → Result Admitted Refusal
  answered v = answer old new (Record k t vs) v

  first_behind : (a b c d e f g : Bool) → (f ≡ true → g ≡ true) → answered (first_of a b c d e g) ≡ behind_limit g (answered (first_of a b c d e f))
  first_behind false b c d e f g h = refused_still g refusal.UnknownKey
  first_behind true false c d e f g h = refused_still g refusal.FieldRange
  first_behind true true false d e f g h = refused_still g refusal.TimeRange
  first_behind true true true true e f g h = refused_still g refusal.TooFarAhead
  first_behind true true true false true f g h = refused_still g refusal.Late
  first_behind true true true false false true true h = refl
  first_behind true true true false false true false h = absurd (true≢false (sym (h refl)))
  first_behind true true true false false false true h = refl
  first_behind true true true false false false false h = refl

module _ (shape : Shape) (declared : Declared) (s : State) (handed limited : ℕ) where
  -- as many records as the limit were admitted, with those that were handed over
  abbrev pub is_full : Bool
  is_full = nat_le (unsigned_abs s.clock.records) (s.admitted + handed)

  fuller : nat_le (unsigned_abs s.clock.records) s.admitted ≡ true → is_full ≡ true
  fuller h = grind (arith, nat_tests)

  -- the decision by both counts
  pub decision_with : (e : Event) → decision shape declared (with_counts s handed limited) e ≡ behind_limit (nat_le (unsigned_abs s.clock.records) (s.admitted + handed)) (decision shape declared s e)
  decision_with (Record k t vs) =
      first_behind s.mark (least s.marks) k t vs (is_key declared k) (fit_fields declared.fields vs) (is_time t) (is_too_far_ahead s.clock (least s.marks) t) (is_late s.clock shape (least s.marks) t)
      (nat_le (unsigned_abs s.clock.records) s.admitted) is_full fuller
  decision_with (Watermark source t) = by (watermark_refusal (mark_at s.marks source) t)
    where
      by : (v : Option Refusal) → answer s.mark (least (marks_with s.marks (Watermark source t))) (Watermark source t) v ≡ behind_limit is_full (answer s.mark (least (marks_with s.marks (Watermark source t))) (Watermark source t) v)
      by None = raised_still is_full s.mark (least (marks_with s.marks (Watermark source t)))
      by (Some r) = refused_still is_full r

-- ---- an answer by the admission's own count

module _ (shape : Shape) (declared : Declared) (s : State) (handed limited : ℕ) (e : Event) (limit count : ℕ) (a : Result Admitted Refusal)
    (limit_is : limit ≡ unsigned_abs s.clock.records) (count_is : count ≡ s.admitted) (decided : a ≡ decision shape declared s e) where
  -- it stands unless it takes a record past the limit
  pub stands : false ≡ (nat_le limit (count + handed) && is_record a) → a ≡ decision shape declared (with_counts s handed limited) e
  stands is =
      ap (λ (b : Bool). cond b (Err refusal.RecordLimit) a) is
      ∙ (λ i. behind_limit (nat_le (limit_is i) (count_is i + handed)) (decided i))
      ∙ sym (decision_with shape declared s handed limited e)
