-- What a verified program keeps is sound after every event, and so after every history: what its
-- accumulators hold is in bounds, FIRE may read it, and no sum leaves 64 bits.
use Rattle.std.proofs.Common.{◌≡◌, ℕ, ◌+◌, ◌≤◌, true, false, cond, List, [], ◌∷◌, length, ℤ, Option, Some, None, Ok, Err, IsTrue, refl, sym, subst, ◌∙◌, arith}
use Rattle.std.proofs.lemmas.Int.{ints}
use Rattle.std.proofs.lemmas.Bool.Decides.{nat_tests}
use Rattle.std.specs.Prelude.{pos, ◌≤ℤ◌, nat_lt, nat_le, unsigned_abs}
use Rattle.std.specs.List.{AllByRecursion}
use Rattle.std.proofs.lemmas.Bool.{and_from}
use Rattle.wsm_record.specs.declared.event.Value.{Value}
use Rattle.wsm_record.specs.declared.words.Mode.{Mode}
use Rattle.wsm_record.specs.declared.words.Mode.TheVariants.{Discarding, Accumulating, Retracting}
use Rattle.wsm_record.specs.Event.{Event, Record, Watermark}
use Rattle.wsm_record.specs.Schema.{fit_fields}
use Rattle.wsm_windows.specs.declared.window.Shape.{Shape}
use Rattle.wsm_windows.specs.declared.window.Shape.TheVariants.{Session}
use Rattle.wsm_windows.specs.declared.place.Place.{Place}
use Rattle.wsm_admission.specs.declared.clock.Clock.{Clock}
use Rattle.wsm_admission.specs.declared.verdict.Refusal.{Refusal}
use Rattle.wsm_admission.specs.declared.verdict.Refusal.TheVariants as refusal
use Rattle.wsm_admission.specs.Clock.{verdict_at, least as least_mark}
use Rattle.wsm_admission.specs.Admission as admission
use Rattle.wsm_admission.specs.Admission.{after, answer, marks_with}
use Rattle.wsm_admission.proofs.FittedHistory.{clock-after}
use Rattle.wsm_admission.proofs.Taken.{IsTaken, taken_record}
use Rattle.wsm_fold.specs.Accumulators.{SumsFit}
use Rattle.wsm_semantics.specs.Query.{Datum}
use Rattle.wsm_semantics.specs.Kept.{is_linked}
use Rattle.wsm_semantics.specs.Summaries.{Pane, fired_count, linked, after_record}
use Rattle.wsm_semantics.specs.HeldRecords.{AtMost, total}
use Rattle.wsm_semantics.specs.Replay.{datum}
use Rattle.wsm_semantics.specs.Steps.{State, opened, panes_after, step, run}
use Rattle.wsm_semantics.proofs.Lists.{all-each, filter-all}
use Rattle.wsm_semantics.proofs.HeldRecords.{at_most_later, each_of, total-where}
use Rattle.wsm_program.specs.declared.instr.SectionId.TheVariants.{Fire}
use Rattle.wsm_program.specs.Program.{Program, is_program}
use Rattle.wsm_program.specs.declared.program.Costs.{Costs}
use Rattle.wsm_rules.specs.Rules.{judge}
use Rattle.wsm_rules.proofs.Lawful as lawful_programs
use Rattle.wsm_machine.specs.InRange.{in_range}
use Rattle.wsm_machine.specs.Meaning.{pane_inputs, query_of, plan_of}
use Rattle.wsm_machine.specs.Sound.{AreFoldsOf, IsSoundEntry, AreSound, IsSoundState, IsDatumInRange}
use Rattle.wsm_machine.proofs.SoundAccumulators.{may_fire, parts_fit}
use Rattle.wsm_machine.proofs.SoundPanes.{sound_after_record, sound_after_watermark, sound_opened}
use Rattle.wsm_semantics.proofs.Each.{all-both}

module _ (p : Program) (costs : Costs) (judged : judge p ≡ Ok costs) (lawful : IsTrue (is_program p)) where
  -- an admitted record is in range
  pub record_in_range : (c : Clock) (marks : List ℤ) (n turn : ℕ) (mark : ℤ) (key : ℕ) (time : ℤ) (values : List Value) → verdict_at c p.header.shape p.header.schema marks n (Record (Some key) time values) ≡ None →
      IsDatumInRange p (datum turn mark key time values)
  record_in_range c marks n turn mark key time values h =
      let taken : IsTaken c p.header.shape p.header.schema (least_mark marks) n (Some key) time values = taken_record c p.header.shape p.header.schema (least_mark marks) n (Some key) time values h in
      and_from (nat_lt key (length p.header.schema.keys)) (fit_fields p.header.schema.fields values) taken.has_key taken.fits

  -- and there were fewer records than the program allows
  pub room_for_record : (marks : List ℤ) (n key : ℕ) (time : ℤ) (values : List Value) → verdict_at p.header.clock p.header.shape p.header.schema marks n (Record (Some key) time values) ≡ None → pos (n + 1) ≤ℤ p.header.clock.records
  room_for_record marks n key time values h =
      fits p.header.clock.records n (lawful_programs.lawful p lawful).records.0 (taken_record p.header.clock p.header.shape p.header.schema (least_mark marks) n (Some key) time values h).room
    where
      fits : (r : ℤ) (n : ℕ) → pos 1 ≤ℤ r → nat_le (unsigned_abs r) n ≡ false → pos (n + 1) ≤ℤ r
      fits r n l h = grind (arith, ints, nat_tests)

  more_sound : (m n : ℕ) (panes : List (Place × Pane (List Value))) → m ≤ n → AreSound p m panes → AreSound p n panes
  more_sound m n panes l h = record { each = h.each; counts = at_most_later p.header.shape m n l panes h.counts }

  refused_admits : (s : admission.State) (e : Event) (r : Refusal) → (after (Err r) e s).admitted ≡ s.admitted
  refused_admits s e refusal.Late = refl
  refused_admits s e _ = refl

  panes_sound : (s : State (List Value)) → AreSound p s.admission.admitted s.panes → (new : ℤ) (e : Event) (v : Option Refusal) →
      v ≡ verdict_at s.admission.clock p.header.shape p.header.schema s.admission.marks s.admission.admitted e →
      AreSound p (after (answer s.admission.mark new e v) e s.admission).admitted (panes_after (plan_of p) (query_of p) (answer s.admission.mark new e v) e s)
  panes_sound s sound new (Record (Some k) t vs) None h =
      elim ((plan_of p).selects k vs) as (λ b. AreSound p (s.admission.admitted + 1) (cond b (after_record (plan_of p) (query_of p) s.admission.mark (datum 0 s.admission.mark k t vs) s.panes) s.panes)) [
        | true ↦ sound_after_record p costs judged lawful (datum 0 s.admission.mark k t vs) (record_in_range s.admission.clock s.admission.marks s.admission.admitted 0 s.admission.mark k t vs (sym h)) s.admission.mark s.admission.admitted s.panes sound
        | false ↦ more_sound s.admission.admitted (s.admission.admitted + 1) s.panes (omega arith) sound
      ]
  panes_sound s sound new (Record None t vs) None h = absurd (cc)
  panes_sound s sound new (Watermark o t) None h = sound_after_watermark p s.admission.mark new s.admission.admitted s.panes sound
  panes_sound s sound new e (Some r) h = subst (λ n. AreSound p n s.panes) (sym (refused_admits s.admission e r)) sound

  admitted_few : (s : admission.State) (new : ℤ) (e : Event) (v : Option Refusal) → v ≡ verdict_at s.clock p.header.shape p.header.schema s.marks s.admitted e → s.admitted ≤ unsigned_abs s.clock.records → (after (answer s.mark new e v) e s).admitted ≤ unsigned_abs s.clock.records
  admitted_few s new (Record (Some k) t vs) None h l =
      let room : nat_le (unsigned_abs s.clock.records) s.admitted ≡ false = (taken_record s.clock p.header.shape p.header.schema (least_mark s.marks) s.admitted (Some k) t vs (sym h)).room in
      grind (arith, nat_tests)
  admitted_few s new (Record None t vs) None h l = absurd (cc)
  admitted_few s new (Watermark o t) None h l = l
  admitted_few s new e (Some r) h l = subst (λ n. n ≤ unsigned_abs s.clock.records) (sym (refused_admits s e r)) l

  -- an event
  pub sound_step : (s : State (List Value)) (e : Event) → IsSoundState p s → IsSoundState p (step (plan_of p) (query_of p) s e)
  sound_step s e h =
      let v : Option Refusal = verdict_at s.admission.clock p.header.shape p.header.schema s.admission.marks s.admission.admitted e in
      let new : ℤ = least_mark (marks_with s.admission.marks e) in
      let same : (after (answer s.admission.mark new e v) e s.admission).clock ≡ s.admission.clock = clock-after s.admission.mark new s.admission e v in
      record {
        clock = same ∙ h.clock;
        admitted = subst (λ (c : Clock). (after (answer s.admission.mark new e v) e s.admission).admitted ≤ unsigned_abs c.records) (sym same) (admitted_few s.admission new e v refl h.admitted);
        panes = panes_sound s h.panes new e v refl;
      }

  -- before the first event, and after any list of events
  pub sound_state_opened : IsSoundState p (opened (plan_of p) (query_of p))
  sound_state_opened = record { clock = refl; admitted = omega arith; panes = sound_opened p }

  pub sound_run : (past : List Event) → IsSoundState p (run (plan_of p) (query_of p) past)
  sound_run [] = sound_state_opened
  sound_run (e ∷ past) = sound_step (run (plan_of p) (query_of p) past) e (sound_run past)

  -- ---- what soundness gives

  -- as many records as were admitted are as many as the program allows
  pub admitted_within : (s : State (List Value)) → IsSoundState p s → pos s.admission.admitted ≤ℤ p.header.clock.records
  admitted_within s h =
      few p.header.clock.records s.admission.admitted (lawful_programs.lawful p lawful).records.0 (subst (λ (c : Clock). s.admission.admitted ≤ unsigned_abs c.records) h.clock h.admitted)
    where
      few : (r : ℤ) (n : ℕ) → pos 1 ≤ℤ r → n ≤ unsigned_abs r → pos n ≤ℤ r
      few r n l h = grind (arith, ints)

  count_least : (m : Mode) (n : ℕ) (h : Pane (List Value)) → h.unshown ≤ h.count → h.count ≤ n → fired_count m h ≤ n
  count_least Accumulating n h u l = l
  count_least Discarding n h u l = omega (arith, u, l)
  count_least Retracting n h u l = l

  -- FIRE may read what a pane holds
  abbrev pub CanFire : Place × Pane (List Value) → Type 0
  CanFire e = (held : List Value) → e.1.folded ≡ Some held → IsTrue (in_range p Fire (pane_inputs e.0.key (fired_count p.header.mode e.1) held))

  pub all_can_fire : (n : ℕ) (panes : List (Place × Pane (List Value))) → pos n ≤ℤ p.header.clock.records → AreSound p n panes → AllByRecursion CanFire panes
  all_can_fire n panes few h =
      all-each (λ e. IsSoundEntry p e × (e.1.count ≤ n)) CanFire panes
      (λ e f held is.
      may_fire p costs judged e.0.key (fired_count p.header.mode e.1) held f.0.key (subst (AreFoldsOf p (fired_count p.header.mode e.1)) is f.0.pane.folds)
      (least (fired_count p.header.mode e.1) (count_least p.header.mode n e.1 f.0.pane.unshown f.1)))
      (all-both (IsSoundEntry p) (λ e. e.1.count ≤ n) (λ e. IsSoundEntry p e × (e.1.count ≤ n)) (λ e f g. (f, g)) panes h.each (each_of p.header.shape n panes h.counts))
    where
      least : (m : ℕ) → m ≤ n → pos m ≤ℤ p.header.clock.records
      least m l = omega (arith, ints, few, l)

  -- two sessions that a record joins are joined in 64 bits
  pub joins_fit : (n : ℕ) (panes : List (Place × Pane (List Value))) (gap : ℤ) (d : Datum) (e f : Place × Pane (List Value)) (es : List (Place × Pane (List Value))) (xs ys : List Value) →
      p.header.shape ≡ Session gap → pos n ≤ℤ p.header.clock.records → AreSound p n panes → linked gap d panes ≡ e ∷ f ∷ es → e.1.folded ≡ Some xs → f.1.folded ≡ Some ys → SumsFit p.header.kinds xs ys
  joins_fit n panes gap d e f es xs ys session few h is ex fy =
      let parts : AllByRecursion (IsSoundEntry p) (e ∷ f ∷ es) = subst (AllByRecursion (IsSoundEntry p)) is (filter-all (IsSoundEntry p) (λ e. is_linked gap d e.0) panes h.each) in
      let all : total panes ≤ n = subst (λ (sh : Shape). AtMost sh n panes) session h.counts in
      let some : total (e ∷ f ∷ es) ≤ n = subst (λ ps. total ps ≤ n) is (through (total (linked gap d panes)) (total panes) (total-where (is_linked gap d) panes) all) in
      parts_fit p costs judged (fired_count p.header.mode e.1) (fired_count p.header.mode f.1) xs ys
      (subst (AreFoldsOf p (fired_count p.header.mode e.1)) ex parts.0.pane.folds)
      (subst (AreFoldsOf p (fired_count p.header.mode f.1)) fy parts.1.0.pane.folds)
      (least (fired_count p.header.mode e.1) (fired_count p.header.mode f.1)
      (count_least p.header.mode e.1.count e.1 parts.0.pane.unshown (omega arith))
      (count_least p.header.mode f.1.count f.1 parts.1.0.pane.unshown (omega arith)) some)
    where
      through : (a b : ℕ) → a ≤ b → b ≤ n → a ≤ n
      through a b l m = omega (arith, l, m)

      least : (a b : ℕ) → a ≤ e.1.count → b ≤ f.1.count → e.1.count + (f.1.count + total es) ≤ n → pos (a + b) ≤ℤ p.header.clock.records
      least a b l m t = omega (arith, ints, few, l, m, t)
