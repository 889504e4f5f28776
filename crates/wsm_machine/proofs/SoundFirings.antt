-- What fires on a turn of a verified program: records are there, FIRE may read what they are folded to,
-- and it executes at most as many instructions as the program states.
use Rattle.std.proofs.Common.{◌≡◌, ℕ, zero, suc, ◌+◌, ◌≤◌, Bool, true, false, ◌&&◌, cond, List, [], ◌∷◌, ℤ, Option, Some, None, Ok, IsTrue, refl, sym, ap, subst, ◌∙◌, arith}
use Rattle.std.proofs.lemmas.Bool.{true≢false}
use Rattle.std.proofs.lemmas.Bool.Decides.{nat_tests}
use Rattle.std.specs.Prelude.{pos, ◌≤ℤ◌, ◌+ℤ◌, int_lt, int_le, nat_lt}
use Rattle.std.specs.List.{AllByRecursion, cons_option}
use Rattle.wsm_record.specs.declared.event.Value.{Value}
use Rattle.wsm_record.specs.declared.words.Mode.{Mode}
use Rattle.wsm_record.specs.declared.words.Mode.TheVariants.{Discarding, Accumulating, Retracting}
use Rattle.wsm_record.specs.Event.{Event, Record, Watermark}
use Rattle.wsm_windows.specs.declared.window.PaneKind.{PaneKind}
use Rattle.wsm_windows.specs.declared.window.PaneKind.TheVariants.{Early, OnTime, Late, Final}
use Rattle.wsm_windows.specs.Life.{is_due}
use Rattle.wsm_windows.specs.declared.place.Place.{Place}
use Rattle.wsm_windows.specs.Places.{window_of}
use Rattle.wsm_admission.specs.declared.clock.Clock.{Clock}
use Rattle.wsm_admission.specs.declared.verdict.Refusal.{Refusal}
use Rattle.wsm_admission.specs.Clock.{verdict_at, least as least_mark}
use Rattle.wsm_admission.specs.Admission.{answer, marks_with}
use Rattle.wsm_semantics.specs.Query.{Query, Datum}
use Rattle.wsm_semantics.specs.Panes.{is_there}
use Rattle.wsm_semantics.specs.Firings.{is_enough, kind_on_record, kind_on_watermark}
use Rattle.wsm_semantics.specs.Summaries.{Pane, Fired, fired_count, kind_by_record, kind_by_watermark, fired_of, fires, entered, fired_by_record}
use Rattle.wsm_semantics.specs.Replay.{datum}
use Rattle.wsm_semantics.specs.Steps.{State, fired_by, step_fires}
use Rattle.wsm_semantics.proofs.HeldRecords.{at_most-entered}
use Rattle.wsm_program.specs.declared.instr.SectionId.TheVariants.{Fire}
use Rattle.wsm_program.specs.Program.{Program, is_program}
use Rattle.wsm_program.specs.declared.program.Costs.{Costs}
use Rattle.wsm_rules.specs.Rules.{judge}
use Rattle.wsm_rules.proofs.Lawful as lawful_programs
use Rattle.wsm_machine.specs.InRange.{in_range}
use Rattle.wsm_machine.specs.Meaning.{pane_inputs, query_of, plan_of, fire_steps, pane_cost_by}
use Rattle.wsm_machine.specs.Sound.{AreFoldsOf, IsSoundPane, IsSoundEntry, AreSound, IsSoundState, IsDatumInRange, MayFire}
use Rattle.wsm_machine.proofs.TurnCosts.{fire_within}
use Rattle.wsm_machine.proofs.SoundPanes.{entered_sound}
use Rattle.wsm_machine.proofs.SoundSteps.{record_in_range, room_for_record, admitted_within, all_can_fire}
use Rattle.wsm_machine.proofs.RunsToReturn.{none≢some}

-- ---- a firing has records

pub enough_some : (m n : ℕ) → is_enough m n ≡ true → 1 ≤ n
enough_some zero n h = absurd (true≢false (sym h))
enough_some (suc m) n h = grind (arith, nat_tests)

chosen_enough : (m n : ℕ) (kind k : PaneKind) → cond (is_enough m n) (Some kind) None ≡ Some k → 1 ≤ n
chosen_enough m n kind k h =
    elim (is_enough m n) as (λ b. is_enough m n ≡ b → cond b (Some kind) None ≡ Some k → 1 ≤ n) [ true ↦ λ e _. enough_some m n e | false ↦ λ _ g. none≢some g ] refl h

-- by a record: one that isn't shown yet
some_by_record : {X : Type 0} (q : Query) (w : ℤ) (d : Datum) (p : Place) (h : Pane X) (k : PaneKind) → kind_by_record q w d p h ≡ Some k → 1 ≤ h.unshown
some_by_record q w d p h k e =
    elim (is_there q p d) as (λ b. cond b (kind_on_record q w p.end h.unshown) None ≡ Some k → 1 ≤ h.unshown) [
      | true ↦ λ g. elim (int_lt w p.end) as (λ b. cond b (cond (is_enough q.early h.unshown) (Some Early) None) (cond (is_enough q.late h.unshown) (Some Late) None) ≡ Some k → 1 ≤ h.unshown) [
        | true ↦ chosen_enough q.early h.unshown Early k
        | false ↦ chosen_enough q.late h.unshown Late k
      ] g
      | false ↦ λ g. none≢some g
    ] e

either : (a b c d : Bool) (k : PaneKind) (n u : ℕ) → b ≡ nat_lt 0 n → d ≡ nat_lt 0 u → u ≤ n → cond (a && b) (Some OnTime) (cond (c && d) (Some Final) None) ≡ Some k → 1 ≤ n
either true true c d k n u h g l e = grind (arith, nat_tests)
either true false true true k n u h g l e = grind (arith, nat_tests)
either false b true true k n u h g l e = grind (arith, nat_tests)
either a b c d k n u h g l e = none≢some e

-- by a watermark: one that the firing is computed over
some_by_watermark : (q : Query) (old new : ℤ) (p : Place) (n u : ℕ) (k : PaneKind) → u ≤ n → kind_on_watermark q old new p n u ≡ Some k → 1 ≤ n
some_by_watermark q old new p n u k l e =
    either (is_due (window_of p) old new) (nat_lt 0 n) (int_lt old (p.end +ℤ q.clock.lateness) && int_le (p.end +ℤ q.clock.lateness) new) (nat_lt 0 u) k n u refl refl l e

unshown_counted : {X : Type 0} (m : Mode) (h : Pane X) → h.unshown ≤ h.count → h.unshown ≤ fired_count m h
unshown_counted Accumulating h l = l
unshown_counted Discarding h l = omega arith
unshown_counted Retracting h l = l

module _ (p : Program) (costs : Costs) (judged : judge p ≡ Ok costs) (lawful : IsTrue (is_program p)) where
  abbrev Panes : Type 0
  Panes = List (Place × Pane (List Value))

  abbrev CanFire : Place × Pane (List Value) → Type 0
  CanFire e = (held : List Value) → e.1.folded ≡ Some held → IsTrue (in_range p Fire (pane_inputs e.0.key (fired_count p.header.mode e.1) held))

  fired_may : (r : Place) (h : Pane (List Value)) (k : PaneKind) (o : Option (List Value)) → o ≡ h.folded → 1 ≤ fired_count p.header.mode h → AreFoldsOf p (fired_count p.header.mode h) o → CanFire (r, h)
      → MayFire p (record { kind = k; place = r; count = fired_count p.header.mode h; folded = h.folded })
  fired_may r h k None is some none can = absurd (omega (arith, some, none))
  fired_may r h k (Some held) is some folds can = record { held = held; folded = sym is; ranged = can held (sym is) }

  -- the firings of sound panes, by kinds that want records
  fires_may : (kind : Place → Pane (List Value) → Option PaneKind) → ((r : Place) (h : Pane (List Value)) (k : PaneKind) → IsSoundPane p h → kind r h ≡ Some k → 1 ≤ fired_count p.header.mode h)
      → (es : Panes) → AllByRecursion (IsSoundEntry p) es → AllByRecursion CanFire es → AllByRecursion (MayFire p) (fires (query_of p) kind es)
  fires_may kind wants [] h c = tt
  fires_may kind wants (e ∷ es) h c =
      let later : AllByRecursion (MayFire p) (fires (query_of p) kind es) = fires_may kind wants es h.1 c.1 in
      elim (kind e.0 e.1) as (λ o. kind e.0 e.1 ≡ o → AllByRecursion (MayFire p) (cons_option (fired_of p.header.mode e.0 e.1 o) (fires (query_of p) kind es))) [
        | None ↦ λ _. later
        | Some k ↦ λ is. (fired_may e.0 e.1 k e.1.folded refl (wants e.0 e.1 k h.0.pane is) h.0.pane.folds c.0, later)
      ] refl

  by_watermark_may : (old new : ℤ) (n : ℕ) (es : Panes) → pos n ≤ℤ p.header.clock.records → AreSound p n es → AllByRecursion (MayFire p) (fires (query_of p) (kind_by_watermark (query_of p) old new) es)
  by_watermark_may old new n es few h =
      fires_may (kind_by_watermark (query_of p) old new)
      (λ r k kind sound is. some_by_watermark (query_of p) old new r (fired_count p.header.mode k) k.unshown kind (unshown_counted p.header.mode k sound.unshown) is)
      es h.each (all_can_fire p costs judged lawful n es few h)

  by_record_may : (w : ℤ) (d : Datum) (n : ℕ) (es : Panes) → IsDatumInRange p d → pos (n + 1) ≤ℤ p.header.clock.records → AreSound p n es → AllByRecursion (MayFire p) (fired_by_record (plan_of p) (query_of p) w d es)
  by_record_may w d n es ranged few h =
      let now : Panes = entered (plan_of p) p.header.shape p.header.clock.lateness d es in
      let sound : AreSound p (n + 1) now = record {
        each = entered_sound p costs judged lawful d ranged p.header.shape p.header.clock.lateness es h.each;
        counts = at_most-entered (plan_of p) p.header.shape p.header.clock.lateness (lawful_programs.lawful p lawful).shape n d es h.counts;
      } in
      fires_may (kind_by_record (query_of p) w d)
      (λ r k kind f is. least k.unshown (fired_count p.header.mode k) (some_by_record (query_of p) w d r k kind is) (unshown_counted p.header.mode k f.unshown))
      now sound.each (all_can_fire p costs judged lawful (n + 1) now few sound)
    where
      least : (a b : ℕ) → 1 ≤ a → a ≤ b → 1 ≤ b
      least a b l m = omega (arith, l, m)

  answered_may : (s : State (List Value)) → IsSoundState p s → (new : ℤ) (e : Event) (v : Option Refusal) → v ≡ verdict_at s.admission.clock p.header.shape p.header.schema s.admission.marks s.admission.admitted e →
      AllByRecursion (MayFire p) (fired_by (plan_of p) (query_of p) (answer s.admission.mark new e v) e s)
  answered_may s h new (Record (Some k) t vs) None is =
      elim ((plan_of p).selects k vs) as (λ b. AllByRecursion (MayFire p) (cond b (fired_by_record (plan_of p) (query_of p) s.admission.mark (datum 0 s.admission.mark k t vs) s.panes) [])) [
        | true ↦ by_record_may s.admission.mark (datum 0 s.admission.mark k t vs) s.admission.admitted s.panes
            (record_in_range p costs judged lawful s.admission.clock s.admission.marks s.admission.admitted 0 s.admission.mark k t vs (sym is))
            (room_for_record p costs judged lawful s.admission.marks s.admission.admitted k t vs
            (ap (λ (c : Clock). verdict_at c p.header.shape p.header.schema s.admission.marks s.admission.admitted (Record (Some k) t vs)) (sym h.clock) ∙ sym is))
            h.panes
        | false ↦ tt
      ]
  answered_may s h new (Record None t vs) None is = absurd (cc)
  answered_may s h new (Watermark o t) None is = by_watermark_may s.admission.mark new s.admission.admitted s.panes (admitted_within p costs judged lawful s h) h.panes
  answered_may s h new e (Some r) is = tt

  -- each firing of an event's turn has records, and FIRE may read what they are folded to
  pub step_fires_may : (s : State (List Value)) → IsSoundState p s → (e : Event) → AllByRecursion (MayFire p) (step_fires (plan_of p) (query_of p) s e)
  step_fires_may s h e = answered_may s h (least_mark (marks_with s.admission.marks e)) e (verdict_at s.admission.clock p.header.shape p.header.schema s.admission.marks s.admission.admitted e) refl

  -- a firing costs at most what is stated
  pub fired_within : (f : Fired (List Value)) → MayFire p f → pane_cost_by p f ≤ p.header.budget.per_pane
  fired_within f h =
      subst (λ o. fire_steps p f.place.key f.count o ≤ p.header.budget.per_pane) (sym h.folded) (fire_within p costs judged lawful f.place.key f.count h.held h.ranged)
