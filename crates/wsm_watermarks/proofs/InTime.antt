-- A row that waited is neither late nor too far ahead for a query.
use Rattle.std.proofs.Common.{◌≡◌, ◌≤◌, ◌<◌, ◌+◌, ℕ, Bool, true, false, ◌&&◌, List, [], ◌∷◌, ℤ, pos, ◌+ℤ◌, ◌≤ℤ◌, Option, Some, refl, sym, ◌∙◌, arith}
use Rattle.std.proofs.lemmas.Int.{ints}
use Rattle.std.specs.Prelude.{int_lt, if◌then◌else◌}
use Rattle.std.specs.Int.{int_max}
use Rattle.wsm_record.specs.declared.event.Value.{Value}
use Rattle.wsm_record.specs.Event.{Event, Record, Watermark}
use Rattle.wsm_record.specs.Schema.{Declared, source_count}
use Rattle.wsm_windows.specs.declared.window.Shape.{Shape}
use Rattle.wsm_windows.specs.Windows.{IsShape}
use Rattle.wsm_admission.specs.declared.clock.Clock.{Clock}
use Rattle.wsm_admission.specs.declared.verdict.Refusal.TheVariants as refusal
use Rattle.wsm_admission.specs.Clock.{is_late, is_time, is_too_far_ahead, source_mark, verdict, watermark_of}
use Rattle.wsm_watermarks.specs.Held.{AreInTime, Item, Mark, Passed}
use Rattle.wsm_watermarks.specs.Served.{AreAllInTime, AreInRange, VerdictsInTime, event_of_row}
use Rattle.wsm_watermarks.proofs.Served.{first_of, late_time, one_mark, prompt}

far_by_rule : (a b c d e f : Bool) → first_of a b c d e f ≡ Some refusal.TooFarAhead → d ≡ true
far_by_rule false b c d e f h = absurd (cc)
far_by_rule true false c d e f h = absurd (cc)
far_by_rule true true false d e f h = absurd (cc)
far_by_rule true true true true e f h = refl
far_by_rule true true true false true f h = absurd (cc)
far_by_rule true true true false false true h = absurd (cc)
far_by_rule true true true false false false h = absurd (cc)

far_time : (c : Clock) (shape : Shape) (declared : Declared) (past : List Event) (key : Option ℕ) (time : ℤ) (values : List Value) → verdict c shape declared past (Record key time values) ≡ Some refusal.TooFarAhead → is_too_far_ahead c (watermark_of c declared past) time ≡ true
far_time c shape declared past key time values h = far_by_rule _ _ _ _ _ _ h

clash : (b : Bool) → b ≡ true → b ≡ false → ⊥
clash b h k = absurd cc

-- by the watermark that was told last
not_late : (mark time : ℕ) (w l : ℤ) → w ≡ pos mark → mark ≤ time → pos 0 ≤ℤ l → w ≤ℤ (pos time +ℤ l)
not_late mark time w l is le low = omega (arith, ints)

not_far : (mark time span : ℕ) (w skew : ℤ) → w ≡ pos mark → time ≤ mark + span → pos span ≤ℤ skew → int_lt (w +ℤ skew) (pos time) ≡ false
not_far mark time span w skew is le enough = grind (arith, ints)

raised : (old m : ℕ) (w : ℤ) (b : Bool) → w ≡ pos old → old < m → b ≡ true → (if true && b then int_max w (pos m) else w) ≡ pos m
raised old m w true is less h = grind (arith, ints)
raised old m w false is less h = absurd cc

module _ {T : Type 0} (key : T → Option ℕ) (values : T → List Value) (c : Clock) (shape : Shape) (declared : Declared) (one : source_count declared ≡ 1) (ok : IsShape shape) (low : pos 0 ≤ℤ c.lateness) (span : ℕ) (enough : pos span ≤ℤ c.skew) where
  marked : (past : List Event) (mark m : ℕ) → watermark_of c declared past ≡ pos mark → mark < m → is_time (pos m) ≡ true → watermark_of c declared (Watermark (Some 0) (pos m) ∷ past) ≡ pos m
  marked past mark m is less in_time =
      one_mark c declared (Watermark (Some 0) (pos m) ∷ past) one ∙ raised mark m (source_mark c 0 past) (is_time (pos m)) (sym (one_mark c declared past one) ∙ is) less in_time

  all_in_time : (items : List (Item T)) (past : List Event) (mark : ℕ) → watermark_of c declared past ≡ pos mark → AreInRange items → AreInTime span mark items → AreAllInTime c shape declared key values past items
  all_in_time [] past mark is range times = tt
  all_in_time (Mark m ∷ items) past mark is range times = all_in_time items (Watermark (Some 0) (pos m) ∷ past) m (marked past mark m is times.0 range.0) range.1 times.1
  all_in_time (Passed r ∷ items) past mark is range times = (
    (λ h. clash (is_late c shape (watermark_of c declared past) (pos r.time)) (late_time c shape declared past (key r.row) (pos r.time) (values r.row) h)
        (prompt c shape (watermark_of c declared past) (pos r.time) ok (not_late mark r.time (watermark_of c declared past) c.lateness is times.0 low))),
    (λ h. clash (is_too_far_ahead c (watermark_of c declared past) (pos r.time)) (far_time c shape declared past (key r.row) (pos r.time) (values r.row) h)
        (not_far mark r.time span (watermark_of c declared past) c.skew is times.1 enough)),
    all_in_time items (event_of_row key values r ∷ past) mark (one_mark c declared (event_of_row key values r ∷ past) one ∙ sym (one_mark c declared past one) ∙ is) range times.2,
  )

pub verdicts_in_time : {T : Type 0} (key : T → Option ℕ) (values : T → List Value) (c : Clock) (shape : Shape) (declared : Declared) → source_count declared ≡ 1 → IsShape shape → pos 0 ≤ℤ c.lateness → VerdictsInTime key values c shape declared
verdicts_in_time key values c shape declared one ok low span enough past mark is items range times = all_in_time key values c shape declared one ok low span enough items past mark is range times
