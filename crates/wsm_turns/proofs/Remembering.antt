-- What is remembered as the watermark rises.
use Rattle.std.proofs.Common.{◌≡◌, ◌∙◌, ℕ, Bool, true, false, not, List, [], ◌∷◌, ℤ, pos, ◌≤ℤ◌, Result, Ok, Err, Some, refl, sym, ap, subst, arith}
use Rattle.std.proofs.lemmas.Bool.{true≢false}
use Rattle.std.proofs.lemmas.Int.{ints}
use Rattle.std.specs.Prelude.{IfOk}
use Rattle.wsm_windows.specs.declared.window.Shape.{Shape}
use Rattle.wsm_admission.specs.declared.clock.Clock.{Clock}
use Rattle.wsm_admission.proofs.SourceMarks.{watermark_rises}
use Rattle.wsm_record.specs.Event.{Event}
use Rattle.wsm_doubles.specs.Memory.{Kept, Memory, Recalls, knows, live, remembered}
use Rattle.wsm_doubles.proofs.Forgotten.{live-live, recalls_on}
use Rattle.wsm_turns.specs.declared.identifiers.Identifiers.{Identifiers}
use Rattle.wsm_turns.specs.Numbered.{Numbered}
use Rattle.wsm_turns.specs.Turns.{Setting, fed_with, watermark}
use Rattle.wsm_turns.specs.Known.{Passes, Remembers}

at_most : (a : ℤ) → a ≤ℤ a
at_most a = omega (arith, ints)

in_turn : (a b c : ℤ) → a ≤ℤ b → b ≤ℤ c → a ≤ℤ c
in_turn a b c h k = omega (arith, ints)

-- the watermark doesn't fall
pub mark_rises : (w : Setting) (past : List Event) (gs : List Numbered) → watermark w past ≤ℤ watermark w (fed_with past gs)
mark_rises w past [] = at_most (watermark w past)
mark_rises w past (g ∷ gs) = in_turn (watermark w past) (watermark w (g.event ∷ past)) (watermark w (fed_with (g.event ∷ past) gs)) (watermark_rises w.clock w.declared past g.event) (mark_rises w (g.event ∷ past) gs)

pub remembers_on : (w : Setting) (mark later : ℤ) (r : Identifiers) (memory : Memory) → mark ≤ℤ later → Remembers w mark r memory → Remembers w later r (live w.clock w.shape later memory)
remembers_on w mark later r memory rises h = record {
  clock = h.clock;
  shape = h.shape;
  recalls = recalls_on w.clock w.shape mark later r.doubles memory rises h.recalls;
}

-- a record that was taken note of
pub noted_on : (c : Clock) (shape : Shape) (mark later : ℤ) (kept : Kept) (i : List ℕ) (time : ℤ) (memory : Memory) → mark ≤ℤ later → Recalls c shape mark kept (remembered c shape mark i time memory) →
    Recalls c shape later kept (live c shape later ((i, time) ∷ memory))
noted_on c shape mark later kept i time memory rises h =
    subst (Recalls c shape later kept) (live-live c shape mark later rises ((i, time) ∷ memory)) (recalls_on c shape mark later kept (remembered c shape mark i time memory) rises h)

-- at a watermark, by the clock and the windows that are kept
pub recalls_here : (w : Setting) (mark m : ℤ) (r : Identifiers) (memory : Memory) → m ≡ mark → Remembers w mark r memory → Recalls r.clock r.shape m r.doubles memory
recalls_here w mark m r memory at h =
    subst (λ (c : Clock). Recalls c r.shape m r.doubles memory) (sym h.clock)
    (subst (λ (s : Shape). Recalls w.clock s m r.doubles memory) (sym h.shape) (subst (λ (n : ℤ). Recalls w.clock w.shape n r.doubles memory) (sym at) h.recalls))

pub remembers_noted : (w : Setting) (mark m later : ℤ) (r new : Identifiers) (i : List ℕ) (time : ℕ) (t : ℤ) (memory : Memory) → m ≡ mark → t ≡ pos time → mark ≤ℤ later → Remembers w mark r memory
    → new.clock ≡ r.clock → new.shape ≡ r.shape → Recalls r.clock r.shape m new.doubles (remembered r.clock r.shape m i t memory)
    → Remembers w later new (live w.clock w.shape later ((i, pos time) ∷ memory))
remembers_noted w mark m later r new i time t memory at is rises h clock shape noted =
    let by_clock = subst (λ (c : Clock). Recalls c r.shape m new.doubles (remembered c r.shape m i t memory)) h.clock noted in
    let by_shape = subst (λ (s : Shape). Recalls w.clock s m new.doubles (remembered w.clock s m i t memory)) h.shape by_clock in
    let by_mark = subst (λ (n : ℤ). Recalls w.clock w.shape n new.doubles (remembered w.clock w.shape n i t memory)) at by_shape in
    let by_time = subst (λ (n : ℤ). Recalls w.clock w.shape mark new.doubles (remembered w.clock w.shape mark i n memory)) is by_mark in
    record {
      clock = clock ∙ h.clock;
      shape = shape ∙ h.shape;
      recalls = noted_on w.clock w.shape mark later new.doubles i (pos time) memory rises by_time;
    }

not_not : (a b : Bool) → a ≡ not b → b ≡ not a
not_not a true is = ap not (sym is)
not_not a false is = ap not (sym is)

-- a record comes with its identifier: by what is answered of it
pub passes_of : {E : Type 0} (w : Setting) (mark : ℤ) (old new : Identifiers) (i : List ℕ) (time : ℕ) (memory : Memory) (r : Result Bool E) → Remembers w mark old memory
    → new.clock ≡ old.clock → new.shape ≡ old.shape
    → IfOk r (λ passes. passes ≡ not (knows i memory))
    → (r ≡ Ok false → new.doubles ≡ old.doubles)
    → (r ≡ Ok true → (later : ℤ) → mark ≤ℤ later → Remembers w later new (live w.clock w.shape later ((i, pos time) ∷ memory)))
    → IfOk r (Passes w mark new (Some i) time memory)
passes_of w mark old new i time memory (Ok true) h clock shape answer double noted = record {
  answer = not_not true (knows i memory) answer;
  double = λ is. absurd (true≢false is);
  noted = λ is. noted refl;
}
passes_of w mark old new i time memory (Ok false) h clock shape answer double noted = record {
  answer = not_not false (knows i memory) answer;
  double = λ is. record {
    clock = clock ∙ h.clock;
    shape = shape ∙ h.shape;
    recalls = subst (λ (k : Kept). Recalls w.clock w.shape mark k memory) (sym (double refl)) h.recalls;
  };
  noted = λ is. absurd (true≢false (sym is));
}
passes_of w mark old new i time memory (Err e) h clock shape answer double noted = tt
