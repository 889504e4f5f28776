-- Engines that go by the marks of their front decide as it does, and go by it then.
use Rattle.std.proofs.Common.{◌≡◌, ◌≢◌, ℕ, ◌+◌, ◌<◌, ◌≤◌, Bool, true, false, cond, List, [], ◌∷◌, length, ℤ, Option, Some, None, Ok, Err, Result, refl, sym, ap, subst, ◌∙◌, inl, inr, arith}
use Rattle.std.proofs.lemmas.Bool.{cases_lt}
use Rattle.std.proofs.lemmas.List.{length-set}
use Rattle.std.proofs.lemmas.Bool.Decides.{nat_tests}
use Rattle.std.specs.Prelude.{IsTrue, int_lt, nat_le, not, if◌then◌else◌, unsigned_abs}
use Rattle.wsm_record.specs.declared.event.Value.{Value}
use Rattle.wsm_record.specs.Event.{Event, Record, Watermark}
use Rattle.wsm_record.specs.Schema.{Declared}
use Rattle.wsm_windows.specs.declared.window.Shape.{Shape}
use Rattle.wsm_admission.specs.declared.clock.Clock.{Clock}
use Rattle.wsm_admission.specs.declared.verdict.Admitted.{Admitted}
use Rattle.wsm_admission.specs.declared.verdict.Admitted.TheVariants as admitted
use Rattle.wsm_admission.specs.declared.verdict.Refusal.{Refusal}
use Rattle.wsm_admission.specs.declared.verdict.Refusal.TheVariants as refusal
use Rattle.wsm_admission.specs.Clock.{admitted_count, least, mark_at, marks_of, record_refusal, verdict_at, watermark_refusal}
use Rattle.wsm_admission.specs.Admission.{State, Fits, after, answer, decision, marks_with}
use Rattle.wsm_admission.proofs.FittedHistory.{Fits-kept}
use Rattle.wsm_admission.proofs.Taken.{IsTaken, taken_record}
use Rattle.wsm_program.specs.Program.{Program, is_program}
use Rattle.wsm_bytecode.specs.Spelling.{spelling}
use Rattle.wsm_engine.specs.State.{State as EngineState}
use Rattle.wsm_engine.specs.Meaning.{Fits as EngineFits, answer_by}
use Rattle.wsm_key_parts.specs.OpenedLate.{openers}
use Rattle.wsm_key_parts.proofs.Openers.{opened_marks}
use Rattle.wsm_part_engines.specs.Fits.{engine_at}
use Rattle.wsm_part_engines.specs.Follows.{AllFollow, Follows, GoesBy, IsFront}
use Rattle.wsm_part_engines.specs.Slots.{AreOf, FeedsAll, FeedsOne, IsAdmitted, IsAt, IsOf, Opens, admission_of, admission_on}
use Rattle.wsm_part_engines.proofs.Parted.{none_refuses}

-- ---- what an engine answers

-- a record that no rule refuses, by the rules
not_refused : (c : Clock) (shape : Shape) (declared : Declared) (m : ℤ) (n : ℕ) (k : Option ℕ) (t : ℤ) (vs : List Value) → IsTaken c shape declared m n k t vs → record_refusal c shape declared m n k t vs ≡ None
not_refused c shape declared m n k t vs is = λ i.
    if not (is.has_key i) then Some refusal.UnknownKey
    else if not (is.fits i) then Some refusal.FieldRange
    else if not (is.in_time i) then Some refusal.TimeRange
    else if is.near i then Some refusal.TooFarAhead
    else if is.prompt i then Some refusal.Late
    else if is.room i then Some refusal.RecordLimit
    else None

module _ (shape : Shape) (declared : Declared) (f s : State) (goes : GoesBy f s) where
  -- a record that the front admits
  fewer_taken : (k : Option ℕ) (t : ℤ) (vs : List Value) → verdict_at f.clock shape declared f.marks f.admitted (Record k t vs) ≡ None → verdict_at s.clock shape declared s.marks s.admitted (Record k t vs) ≡ None
  fewer_taken k t vs h =
      let taken = taken_record f.clock shape declared (least f.marks) f.admitted k t vs h in
      let few = goes.few in
      let full = taken.room in
      let room : nat_le (unsigned_abs f.clock.records) s.admitted ≡ false = grind (arith, nat_tests) in
      (λ i. record_refusal (goes.clock i) shape declared (least (goes.marks i)) s.admitted k t vs)
      ∙ not_refused f.clock shape declared (least f.marks) s.admitted k t vs
      (record { has_key = taken.has_key; fits = taken.fits; in_time = taken.in_time; near = taken.near; prompt = taken.prompt; room = room })

  pub admits_too : (e : Event) → decision shape declared f e ≡ Ok admitted.Record → decision shape declared s e ≡ Ok admitted.Record
  admits_too (Record k t vs) h =
      let none = none_refuses f.mark (least f.marks) (Record k t vs) (verdict_at f.clock shape declared f.marks f.admitted (Record k t vs)) admitted.Record h in
      ap (answer s.mark (least s.marks) (Record k t vs)) (fewer_taken k t vs none)
  admits_too (Watermark source t) h = absurd (by (watermark_refusal (mark_at f.marks source) t) h)
    where
      by : (v : Option Refusal) → answer f.mark (least (marks_with f.marks (Watermark source t))) (Watermark source t) v ≡ Ok admitted.Record → ⊥
      by None h = absurd (cc)
      by (Some r) h = absurd (cc)

  pub by_record : (e : Event) → decision shape declared f e ≡ Ok admitted.Record → GoesBy (after (Ok admitted.Record) e f) (after (decision shape declared s e) e s)
  by_record e h =
      subst (λ (r : Result Admitted Refusal). GoesBy (after (Ok admitted.Record) e f) (after r e s)) (sym (admits_too e h))
      (record { clock = goes.clock; marks = goes.marks; few = let few = goes.few in omega (arith, few) })

  -- a watermark that the front takes
  pub by_watermark : (e : Event) (x y : ℤ) → decision shape declared f e ≡ Ok (admitted.Watermark x y) → GoesBy (after (Ok (admitted.Watermark x y)) e f) (after (decision shape declared s e) e s)
  by_watermark (Record k t vs) x y h = absurd (by (verdict_at f.clock shape declared f.marks f.admitted (Record k t vs)) h)
    where
      by : (v : Option Refusal) → answer f.mark (least f.marks) (Record k t vs) v ≡ Ok (admitted.Watermark x y) → ⊥
      by None h = absurd (cc)
      by (Some r) h = absurd (cc)
  by_watermark (Watermark source t) x y h =
      let e : Event = Watermark source t in
      let none = none_refuses f.mark (least (marks_with f.marks e)) e (watermark_refusal (mark_at f.marks source) t) (admitted.Watermark x y) h in
      let same : watermark_refusal (mark_at s.marks source) t ≡ None = ap (λ (ms : List ℤ). watermark_refusal (mark_at ms source) t) goes.marks ∙ none in
      let taken : decision shape declared s e ≡ Ok (admitted.Watermark s.mark (least (marks_with s.marks e))) = ap (answer s.mark (least (marks_with s.marks e)) e) same in
      subst (λ (r : Result Admitted Refusal). GoesBy (after (Ok (admitted.Watermark x y)) e f) (after r e s)) (sym taken)
      (record { clock = goes.clock; marks = ap (λ (ms : List ℤ). marks_with ms e) goes.marks; few = goes.few })

-- what goes by a front goes by it once it counted a record more, or a refusal
pub still_more : (f : State) (e : Event) (slot : Option State) → Follows f slot → Follows (after (Ok admitted.Record) e f) slot
still_more f e None goes = tt
still_more f e (Some s) goes = record { clock = goes.clock; marks = goes.marks; few = let few = goes.few in omega (arith, few) }

pub still_refused : (f : State) (e : Event) (r : Refusal) (slot : Option State) → Follows f slot → Follows (after (Err r) e f) slot
still_refused f e r None goes = tt
still_refused f e refusal.Late (Some s) goes = record { clock = goes.clock; marks = goes.marks; few = goes.few }
still_refused f e _ (Some s) goes = record { clock = goes.clock; marks = goes.marks; few = goes.few }

-- ---- the front itself

module _ (front next : State) (e : Event) (r : Result Admitted Refusal) (turned : next ≡ after r e front) where
  pub clock_kept : next.clock ≡ front.clock
  clock_kept = ap (λ (s : State). s.clock) turned ∙ by r
    where
      by : (r : Result Admitted Refusal) → (after r e front).clock ≡ front.clock
      by (Ok admitted.Record) = refl
      by (Ok (admitted.Watermark old new)) = refl
      by (Err refusal.Late) = refl
      by (Err _) = refl

  pub same_marks : (a : Result Admitted Refusal) → r ≡ a → next.marks ≡ (after a e front).marks
  same_marks a is = ap (λ (s : State). s.marks) turned ∙ ap (λ (x : Result Admitted Refusal). (after x e front).marks) is

  pub refused_marks : (why : Refusal) → r ≡ Err why → next.marks ≡ front.marks
  refused_marks why is = same_marks (Err why) is ∙ by why
    where
      by : (why : Refusal) → (after (Err why) e front).marks ≡ front.marks
      by refusal.Late = refl
      by _ = refl

  pub history_kept : (shape : Shape) (declared : Declared) → r ≡ decision shape declared front e → (past : List Event) × Fits shape declared front past → (past : List Event) × Fits shape declared next past
  history_kept shape declared decided history = (e ∷ history.0, Fits-kept shape declared front history.0 history.1 next e r decided turned)

  pub refused_follow : (engines : List (Option EngineState)) → (why : Refusal) → r ≡ Err why → AllFollow front engines → AllFollow next engines
  refused_follow engines why is follow part =
      subst (λ (s : State). Follows s (admission_of (engine_at engines part))) (sym (turned ∙ ap (λ (x : Result Admitted Refusal). after x e front) is)) (still_refused front e why (admission_of (engine_at engines part)) (follow part))

-- as many marks as before
pub few_marks : (marks : List ℤ) (e : Event) → length (marks_with marks e) ≡ length marks
few_marks marks (Record k t vs) = refl
few_marks marks (Watermark None t) = refl
few_marks marks (Watermark (Some s) t) = length-set marks s t

module _ (p : Program) (f : State) (e : Event) where
  -- an engine of the program admits what its front admits
  pub admits : (slot : Option EngineState) → IsOf p slot → Follows f (admission_of slot) → decision p.header.shape p.header.schema f e ≡ Ok admitted.Record → IsAdmitted e slot
  admits None own goes h = tt
  admits (Some s) own goes h =
      ap (λ (q : Program). decision q.header.shape q.header.schema s.machine.admission e) own
      ∙ admits_too p.header.shape p.header.schema f s.machine.admission goes e h

  answer_is : (s : EngineState) → s.program ≡ p → decision p.header.shape p.header.schema s.machine.admission e ≡ answer_by s e
  answer_is s own = ap (λ (q : Program). decision q.header.shape q.header.schema s.machine.admission e) (sym own)

  on_record : (slot : Option EngineState) → IsOf p slot → Follows f (admission_of slot) → decision p.header.shape p.header.schema f e ≡ Ok admitted.Record → Follows (after (Ok admitted.Record) e f) (admission_on slot e)
  on_record None own goes h = tt
  on_record (Some s) own goes h =
      subst (λ (r : Result Admitted Refusal). GoesBy (after (Ok admitted.Record) e f) (after r e s.machine.admission)) (answer_is s own)
      (by_record p.header.shape p.header.schema f s.machine.admission goes e h)

  on_watermark : (slot : Option EngineState) → IsOf p slot → Follows f (admission_of slot) → (x y : ℤ) → decision p.header.shape p.header.schema f e ≡ Ok (admitted.Watermark x y) → Follows (after (Ok (admitted.Watermark x y)) e f) (admission_on slot e)
  on_watermark None own goes x y h = tt
  on_watermark (Some s) own goes x y h =
      subst (λ (r : Result Admitted Refusal). GoesBy (after (Ok (admitted.Watermark x y)) e f) (after r e s.machine.admission)) (answer_is s own)
      (by_watermark p.header.shape p.header.schema f s.machine.admission goes e x y h)

  -- ---- all engines

  pub follow_watermark : (olds news : List (Option EngineState)) (panes : ℕ) → AreOf p olds → FeedsAll olds news e panes → AllFollow f olds → (x y : ℤ) → decision p.header.shape p.header.schema f e ≡ Ok (admitted.Watermark x y)
      → AllFollow (after (Ok (admitted.Watermark x y)) e f) news
  follow_watermark olds news panes of fed follow x y h part =
      subst (Follows (after (Ok (admitted.Watermark x y)) e f)) (sym (fed.each part).1.admission) (on_watermark (engine_at olds part) (of part) (follow part) x y h)

  pub follow_record : (part : ℕ) (mids news : List (Option EngineState)) (panes : ℕ) → AreOf p mids → FeedsOne part mids news e panes → AllFollow f mids → decision p.header.shape p.header.schema f e ≡ Ok admitted.Record
      → AllFollow (after (Ok admitted.Record) e f) news
  follow_record part mids news panes of fed follow h other =
      elim (cases_lt other part) [
        | inl less ↦ at_other (let ne : other ≢ part = omega (arith, less) in ne)
        | inr least ↦ elim (cases_lt part other) [
          | inl more ↦ at_other (let ne : other ≢ part = omega (arith, more) in ne)
          | inr most ↦ let is : part ≡ other = omega (arith, least, most) in subst (λ (n : ℕ). Follows (after (Ok admitted.Record) e f) (admission_of (engine_at news n))) is here
        ]
      ]
    where
      at_other : other ≢ part → Follows (after (Ok admitted.Record) e f) (admission_of (engine_at news other))
      at_other ne = subst (λ (slot : Option EngineState). Follows (after (Ok admitted.Record) e f) (admission_of slot)) (sym (fed.others other ne)) (still_more f e (admission_of (engine_at mids other)) (follow other))

      here : Follows (after (Ok admitted.Record) e f) (admission_of (engine_at news part))
      here = subst (Follows (after (Ok admitted.Record) e f)) (sym fed.one.admission) (on_record (engine_at mids part) (of part) (follow part) h)

  -- where no engine changed
  pub follow_same : (olds news : List (Option EngineState)) → ((part : ℕ) → engine_at news part ≡ engine_at olds part) → AllFollow f olds → AllFollow (after (Ok admitted.Record) e f) news
  follow_same olds news same follow part =
      still_more f e (admission_of (engine_at news part)) (subst (λ (slot : Option EngineState). Follows f (admission_of slot)) (sym (same part)) (follow part))

-- ---- an engine that is opened

module _ (c : Clock) (shape : Shape) (declared : Declared) where
  none_admitted : (start : ℤ) (source : ℕ) (marks : List ℤ) → admitted_count c shape declared (openers start source marks) ≡ 0
  none_admitted start source [] = refl
  none_admitted start source (m ∷ marks) =
      let rest = none_admitted start (source + 1) marks in
      elim (int_lt start m) as (λ b. admitted_count c shape declared (cond b (Watermark (Some source) m ∷ openers start (source + 1) marks) (openers start (source + 1) marks)) ≡ 0) [
        | true ↦ rest
        | false ↦ rest
      ]

module _ (p : Program) (marks : List ℤ) (f : State) (front : IsFront p marks f) where
  -- it has the marks of the front, and admitted no record
  opened_goes : (s : EngineState) → s.program ≡ p → EngineFits s (openers s.program.header.clock.start 0 marks) → GoesBy f s.machine.admission
  opened_goes s own fits =
      let same : s.program.header.clock ≡ f.clock = ap (λ (q : Program). q.header.clock) own ∙ sym front.clock in
      let clock : s.machine.admission.clock ≡ f.clock = fits.clock ∙ same in
      let schema : s.program.header.schema ≡ p.header.schema = ap (λ (q : Program). q.header.schema) own in
      let theirs : f.marks ≡ marks_of f.clock p.header.schema front.history.0 = front.history.1.marks in
      record {
        clock = clock;
        marks =
            fits.admission.marks
            ∙ (λ i. marks_of (clock i) (schema i) (openers ((same i).start) 0 ((front.marks ∙ theirs) i)))
            ∙ opened_marks f.clock p.header.schema front.history.0
            ∙ sym theirs;
        few = let none = fits.admission.admitted ∙ none_admitted s.machine.admission.clock s.program.header.shape s.program.header.schema s.program.header.clock.start 0 marks in omega (arith, none);
      }

  module _ (bytes : List ℕ) (part : ℕ) (olds mids : List (Option EngineState)) (opens : Opens bytes marks part olds mids) (lawful : IsTrue (is_program p)) (spelled : bytes ≡ spelling p) where
    pub follow_opened : AllFollow f olds → AllFollow f mids
    follow_opened follow other =
        elim (cases_lt other part) [
          | inl less ↦ at_other (let ne : other ≢ part = omega (arith, less) in ne)
          | inr least ↦ elim (cases_lt part other) [
            | inl more ↦ at_other (let ne : other ≢ part = omega (arith, more) in ne)
            | inr most ↦ let is : part ≡ other = omega (arith, least, most) in subst (λ (n : ℕ). Follows f (admission_of (engine_at mids n))) is (here (engine_at olds part) refl)
          ]
        ]
      where
        at_other : other ≢ part → Follows f (admission_of (engine_at mids other))
        at_other ne = subst (λ (slot : Option EngineState). Follows f (admission_of slot)) (sym (opens.others other ne)) (follow other)

        here : (slot : Option EngineState) → engine_at olds part ≡ slot → Follows f (admission_of (engine_at mids part))
        here None is =
            let there = opens.opened is in
            subst (λ (slot : Option EngineState). Follows f (admission_of slot)) (sym there.1) (opened_goes there.0 (there.2.program p lawful spelled) there.2.fits)
        here (Some s) is =
            subst (λ (slot : Option EngineState). Follows f (admission_of slot)) (sym (opens.kept s is)) (subst (λ (slot : Option EngineState). Follows f (admission_of slot)) is (follow part))
