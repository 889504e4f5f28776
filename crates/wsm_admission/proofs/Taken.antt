-- What is known of an event that is taken, or refused.
use Rattle.std.proofs.Common.{◌≡◌, ◌≤◌, ℕ, Bool, true, false, List, [], ◌∷◌, ℤ, Option, Some, None, refl, sym, arith}
use Rattle.std.proofs.lemmas.Bool.Decides.{nat_tests}
use Rattle.std.specs.Prelude.{nat_le, not, if◌then◌else◌, unsigned_abs}
use Rattle.wsm_record.specs.declared.event.Value.{Value}
use Rattle.wsm_record.specs.Event.{Event, Record, Watermark}
use Rattle.wsm_record.specs.Schema.{Declared, fit_fields}
use Rattle.wsm_windows.specs.declared.window.Shape.{Shape}
use Rattle.wsm_admission.specs.declared.clock.Clock.{Clock}
use Rattle.wsm_admission.specs.declared.verdict.Refusal.{Refusal}
use Rattle.wsm_admission.specs.declared.verdict.Refusal.TheVariants as refusal
use Rattle.wsm_admission.specs.Clock.{is_key, is_time, is_too_far_ahead, is_late, record_refusal, marks_of, least, verdict_at, admitted_with, admitted_count}
use Rattle.wsm_admission.proofs.SourceMarks.{refused_marks}

-- no rule refuses the record
pub record IsTaken (c : Clock) (shape : Shape) (declared : Declared) (mark : ℤ) (admitted : ℕ) (key : Option ℕ) (time : ℤ) (values : List Value) : Type 0 where
  pub has_key : is_key declared key ≡ true
  pub fits : fit_fields declared.fields values ≡ true
  pub in_time : is_time time ≡ true
  pub near : is_too_far_ahead c mark time ≡ false
  pub prompt : is_late c shape mark time ≡ false
  pub room : nat_le (unsigned_abs c.records) admitted ≡ false

abbrev first_of : (a b c d e f : Bool) → Option Refusal
first_of a b c d e f =
    if not a then Some refusal.UnknownKey
    else if not b then Some refusal.FieldRange
    else if not c then Some refusal.TimeRange
    else if d then Some refusal.TooFarAhead
    else if e then Some refusal.Late
    else if f then Some refusal.RecordLimit
    else None

none_holds : (a b c d e f : Bool) → first_of a b c d e f ≡ None → (a ≡ true) × (b ≡ true) × (c ≡ true) × (d ≡ false) × (e ≡ false) × (f ≡ false)
none_holds false b c d e f h = absurd (cc)
none_holds true false c d e f h = absurd (cc)
none_holds true true false d e f h = absurd (cc)
none_holds true true true true e f h = absurd (cc)
none_holds true true true false true f h = absurd (cc)
none_holds true true true false false true h = absurd (cc)
none_holds true true true false false false h = (refl, refl, refl, refl, refl, refl)

pub taken_record : (c : Clock) (shape : Shape) (declared : Declared) (mark : ℤ) (admitted : ℕ) (key : Option ℕ) (time : ℤ) (values : List Value) → record_refusal c shape declared mark admitted key time values ≡ None → IsTaken c shape declared mark admitted key time values
taken_record c shape declared mark admitted key time values h =
    let all = none_holds _ _ _ _ _ _ h in
    record { has_key = all.0; fits = all.1; in_time = all.2; near = all.3; prompt = all.4; room = all.5 }

-- an event that is refused changes no mark
pub refused_keeps : (c : Clock) (shape : Shape) (declared : Declared) (n : ℕ) (past : List Event) (e : Event) (r : Refusal) → verdict_at c shape declared (marks_of c declared past) n e ≡ Some r → marks_of c declared (e ∷ past) ≡ marks_of c declared past
refused_keeps c shape declared n past (Record k t vs) r h = refl
refused_keeps c shape declared n past (Watermark source t) r h = refused_marks c declared past source t r h

one_more : (c : Clock) (shape : Shape) (declared : Declared) (marks : List ℤ) (n : ℕ) (e : Event) (v : Option Refusal) → v ≡ verdict_at c shape declared marks n e → n ≤ unsigned_abs c.records → admitted_with n e v ≤ unsigned_abs c.records
one_more c shape declared marks n (Record k t vs) None h l =
    let room = (taken_record c shape declared (least marks) n k t vs (sym h)).room in
    grind (arith, nat_tests)
one_more c shape declared marks n (Record k t vs) (Some r) h l = l
one_more c shape declared marks n (Watermark source t) v h l = l

-- no more records are admitted than the limit
pub admitted_count-le : (c : Clock) (shape : Shape) (declared : Declared) (past : List Event) → admitted_count c shape declared past ≤ unsigned_abs c.records
admitted_count-le c shape declared [] = omega arith
admitted_count-le c shape declared (e ∷ past) = one_more c shape declared (marks_of c declared past) (admitted_count c shape declared past) e _ refl (admitted_count-le c shape declared past)
