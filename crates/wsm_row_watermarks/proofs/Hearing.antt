-- What is kept of a history that was decided on.
use Rattle.std.proofs.Common.{◌≡◌, ◌∙◌, Bool, List, ◌∷◌, ℤ, Option, Some, None, Ok, Err, Result, is_err, is_some, refl, sym, ap, subst}
use Rattle.wsm_record.specs.Event.{Event, Record, Watermark}
use Rattle.wsm_record.specs.Schema.{Declared}
use Rattle.wsm_windows.specs.declared.window.Shape.{Shape}
use Rattle.wsm_admission.specs.declared.verdict.Admitted.{Admitted}
use Rattle.wsm_admission.specs.declared.verdict.Admitted.TheVariants as admitted
use Rattle.wsm_admission.specs.declared.verdict.Refusal.{Refusal}
use Rattle.wsm_admission.specs.declared.verdict.Refusal.TheVariants as refusal
use Rattle.wsm_admission.specs.Admission.{Decides, State, after, answer}
use Rattle.wsm_admission.specs.Admission as admission
use Rattle.wsm_admission.specs.Clock.{source_mark, verdict, watermark_of}
use Rattle.wsm_turns.specs.Turns.{Setting}
use Rattle.wsm_row_watermarks.specs.Handed.{Marks}
use Rattle.wsm_row_watermarks.specs.Latest.{latest_time, latest_with}

pub same_clock : (r : Result Admitted Refusal) (e : Event) (s : State) → (after r e s).clock ≡ s.clock
same_clock (Ok admitted.Record) e s = refl
same_clock (Ok (admitted.Watermark old new)) e s = refl
same_clock (Err refusal.Late) e s = refl
same_clock (Err refusal.UnknownKey) e s = refl
same_clock (Err refusal.FieldRange) e s = refl
same_clock (Err refusal.TimeRange) e s = refl
same_clock (Err refusal.TooFarAhead) e s = refl
same_clock (Err refusal.RecordLimit) e s = refl
same_clock (Err refusal.NotRising) e s = refl
same_clock (Err refusal.UnknownSource) e s = refl

-- an event was decided on
pub decided : (w : Setting) (shape : Shape) (d : Declared) (old new : State) (first next : ℤ) (e : Event) (r : Result Admitted Refusal) (past : List Event) → shape ≡ w.shape → d ≡ w.declared
    → next ≡ source_mark w.clock 0 (e ∷ past) → Decides shape d old new e r → Marks w old first past → Marks w new next (e ∷ past)
decided w shape d old new first next e r past shaped declared marked decides marks = record {
  clock = ap (λ (s : State). s.clock) decides.state ∙ same_clock r e old ∙ marks.clock;
  fits = subst (λ (x : Shape). admission.Fits x w.declared new (e ∷ past)) shaped
      (subst (λ (x : Declared). admission.Fits shape x new (e ∷ past)) declared
      (decides.fits past
      (subst (λ (x : Shape). admission.Fits x d old past) (sym shaped)
      (subst (λ (x : Declared). admission.Fits w.shape x old past) (sym declared) marks.fits))));
  first = marked;
}

-- the answer is a refusal where a rule refuses
refused_so : (old new : ℤ) (e : Event) (why : Option Refusal) → is_err (answer old new e why) ≡ is_some why
refused_so old new e (Some r) = refl
refused_so old new (Record key time values) None = refl
refused_so old new (Watermark source time) None = refl

-- the latest time that is kept is the history's
pub later_behind : (w : Setting) (shape : Shape) (d : Declared) (old new : State) (first : ℤ) (e : Event) (r : Result Admitted Refusal) (past : List Event) (latest next : Option ℤ)
    → shape ≡ w.shape → d ≡ w.declared → Decides shape d old new e r → Marks w old first past → latest ≡ latest_time w.clock w.shape w.declared past
    → next ≡ latest_with latest e (is_err r) → next ≡ latest_time w.clock w.shape w.declared (e ∷ past)
later_behind w shape d old new first e r past latest next shaped declared decides marks before is_next =
    let fits : admission.Fits shape d old past =
    subst (λ (x : Shape). admission.Fits x d old past) (sym shaped) (subst (λ (x : Declared). admission.Fits w.shape x old past) (sym declared) marks.fits) in
    let refused : is_err r ≡ is_some (verdict old.clock shape d past e) =
    ap (λ (x : Result Admitted Refusal). is_err x) (decides.verdict past fits)
    ∙ refused_so (watermark_of old.clock d past) (watermark_of old.clock d (e ∷ past)) e (verdict old.clock shape d past e) in
    is_next
    ∙ ap (λ (b : Bool). latest_with latest e b) refused
    ∙ (λ i. latest_with (before i) e (is_some (verdict (marks.clock i) (shaped i) (declared i) past e)))
