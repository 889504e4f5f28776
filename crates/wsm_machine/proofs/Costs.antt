-- What the turns of a verified program cost, by what is kept: as much as by the history, and at most
-- what the program states.
use Rattle.std.proofs.Common.{◌≡◌, ℕ, ◌≤◌, true, false, cond, List, [], ◌∷◌, map, length, ℤ, Option, Some, None, Result, Ok, IsTrue, refl, sym, ap, ◌∙◌, arith}
use Rattle.std.specs.Prelude.{is_none}
use Rattle.std.specs.List.{AllByRecursion}
use Rattle.wsm_record.specs.declared.event.Value.{Value}
use Rattle.wsm_record.specs.Event.{Event, Record, Watermark}
use Rattle.wsm_windows.specs.declared.window.Shape.{Shape}
use Rattle.wsm_windows.specs.declared.window.Shape.TheVariants.{Fixed, Sliding, Session}
use Rattle.wsm_admission.specs.declared.clock.Clock.{Clock}
use Rattle.wsm_windows.specs.declared.place.Place.{Place}
use Rattle.wsm_admission.specs.declared.verdict.Admitted.{Admitted}
use Rattle.wsm_admission.specs.declared.verdict.Refusal.{Refusal}
use Rattle.wsm_admission.specs.Clock.{verdict_at, least, watermark_of}
use Rattle.wsm_admission.specs.Admission.{answer, marks_with}
use Rattle.wsm_semantics.specs.Query.{datum, Rises, Nothing, mark, raises, verdict_on, selected}
use Rattle.wsm_semantics.specs.Firings.{Firing, firings}
use Rattle.wsm_semantics.specs.Kept.{kept}
use Rattle.wsm_semantics.specs.Summaries.{Pane, summaries, summary_fired}
use Rattle.wsm_semantics.specs.Steps.{State, Fits, step_fires}
use Rattle.wsm_semantics.proofs.Effects.{effect-refused}
use Rattle.wsm_semantics.proofs.Lists.{all-each}
use Rattle.wsm_semantics.proofs.MachineSteps.{decision-fits}
use Rattle.wsm_semantics.proofs.Steps.{fires-step}
use Rattle.wsm_program.specs.Program.{Program, is_program}
use Rattle.wsm_program.specs.declared.program.Costs.{Costs}
use Rattle.wsm_rules.specs.Rules.{judge}
use Rattle.wsm_rules.proofs.Lawful.{lawful as program_lawful}
use Rattle.wsm_machine.specs.Meaning.{query_of, plan_of, record_steps, before_where, effect_cost, joins_sessions, windows_entered, CountsSessions, record_cost, record_cost_by, pane_cost, pane_cost_by, answer_cost, step_cost}
use Rattle.wsm_machine.specs.Sound.{IsSoundState, MayFire}
use Rattle.wsm_machine.proofs.QueryFolds.{plan_lawful, plan_runs}
use Rattle.wsm_machine.proofs.SoundSteps.{record_in_range}
use Rattle.wsm_machine.proofs.TurnCosts.{record_cost_within}
use Rattle.wsm_machine.proofs.SoundFirings.{step_fires_may, fired_within}
use Rattle.wsm_machine.proofs.CountedSessions.{counts_sessions, sessions_by_event}
use Rattle.wsm_machine.proofs.RunAnswers.{cost_is, fired_cost_is}

-- no number of a turn is counted
joins_turnless : (sh : Shape) (m n : ℕ) (mark : ℤ) (key : ℕ) (time : ℤ) (values : List Value) (panes : List (Place × Pane (List Value))) → joins_sessions sh (datum m mark key time values) panes ≡ joins_sessions sh (datum n mark key time values) panes
joins_turnless (Fixed size) m n mark key time values panes = refl
joins_turnless (Sliding size period) m n mark key time values panes = refl
joins_turnless (Session gap) m n mark key time values panes = refl

module _ (p : Program) where
  cost_turnless : (m n : ℕ) (mark : ℤ) (key : ℕ) (time : ℤ) (values : List Value) (panes : List (Place × Pane (List Value))) → record_cost_by p panes (datum m mark key time values) ≡ record_cost_by p panes (datum n mark key time values)
  cost_turnless m n mark key time values panes i =
      record_steps p key values (windows_entered p.header.shape time p.header.clock.lateness mark) (joins_turnless p.header.shape m n mark key time values panes i)

  module _ (counts : CountsSessions (query_of p)) (s : State (List Value)) (past : List Event) (marked : s.admission.mark ≡ mark (query_of p) past) (is : s.panes ≡ summaries (plan_of p) p.header.mode (kept (query_of p) past)) where
    answer_cost_is : (new : ℤ) (e : Event) (v : Option Refusal) → v ≡ verdict_on (query_of p) past e → answer_cost p (answer (mark (query_of p) past) new e v) e s ≡ record_cost p past e
    answer_cost_is new (Record (Some k) t vs) None h =
        ap (λ (m : ℤ). record_cost_by p s.panes (datum 0 m k t vs)) marked
        ∙ cost_turnless 0 (length past) (mark (query_of p) past) k t vs s.panes
        ∙ ap (λ (ps : List (Place × Pane (List Value))). record_cost_by p ps (datum (length past) (mark (query_of p) past) k t vs)) is
        ∙ cost_is p counts past k t vs (ap is_none (sym h))
    answer_cost_is new (Record None t vs) None h = refl
    answer_cost_is new (Watermark o t) None h =
        elim (raises (query_of p) past (Watermark o t)) as (λ b. 0 ≡ effect_cost p (selected (query_of p) past) (cond b (Rises (mark (query_of p) past) (mark (query_of p) (Watermark o t ∷ past))) Nothing)) [ true ↦ refl | false ↦ refl ]
    answer_cost_is new e (Some r) h = ap (effect_cost p (selected (query_of p) past)) (sym (effect-refused (before_where p) past e r (sym h)))

  -- a turn costs as much as by the history
  pub step_cost_is : IsTrue (is_program p) → (s : State (List Value)) (e : Event) (past : List Event) → Fits (plan_of p) (query_of p) s past → step_cost p s e ≡ record_cost p past e
  step_cost_is lawful s e past fits =
      ap (λ (r : Result Admitted Refusal). answer_cost p r e s) (decision-fits (query_of p) s.admission past e fits.clock fits.admission)
      ∙ answer_cost_is (counts_sessions p lawful) s past (fits.admission.mark ∙ ap (λ (c : Clock). watermark_of c p.header.schema past) fits.clock) fits.panes (mark (query_of p) (e ∷ past)) e (verdict_on (query_of p) past e) refl

  each_cost : (fs : List Firing) → map (pane_cost_by p) (map (summary_fired (plan_of p)) fs) ≡ map (pane_cost p) fs
  each_cost [] = refl
  each_cost (f ∷ fs) = λ i. fired_cost_is p f i ∷ each_cost fs i

  -- and so do its firings, one by one
  pub fired_costs_are : IsTrue (is_program p) → (s : State (List Value)) (e : Event) (past : List Event) → Fits (plan_of p) (query_of p) s past →
      map (pane_cost_by p) (step_fires (plan_of p) (query_of p) s e) ≡ map (pane_cost p) (firings (query_of p) past e)
  fired_costs_are whole s e past fits =
      let is = program_lawful p whole in
      ap (map (pane_cost_by p)) (fires-step (plan_of p) (plan_lawful p) (query_of p) (plan_runs p) is.shape (sessions_by_event p whole) is.lateness.low s e past fits) ∙ each_cost (firings (query_of p) past e)

  module _ (costs : Costs) (judged : judge p ≡ Ok costs) (lawful : IsTrue (is_program p)) where
    answer_within : (s : State (List Value)) (new : ℤ) (e : Event) (v : Option Refusal) → v ≡ verdict_at s.admission.clock p.header.shape p.header.schema s.admission.marks s.admission.admitted e →
        answer_cost p (answer s.admission.mark new e v) e s ≤ p.header.budget.per_record
    answer_within s new (Record (Some k) t vs) None h =
        record_cost_within p costs judged lawful (datum 0 s.admission.mark k t vs) (record_in_range p costs judged lawful s.admission.clock s.admission.marks s.admission.admitted 0 s.admission.mark k t vs (sym h)) s.panes
    answer_within s new (Record (Some k) t vs) (Some r) h = omega arith
    answer_within s new (Record None t vs) None h = omega arith
    answer_within s new (Record None t vs) (Some r) h = omega arith
    answer_within s new (Watermark o t) None h = omega arith
    answer_within s new (Watermark o t) (Some r) h = omega arith

    -- a turn costs at most what is stated for a record
    pub step_cost_within : (s : State (List Value)) (e : Event) → step_cost p s e ≤ p.header.budget.per_record
    step_cost_within s e = answer_within s (least (marks_with s.admission.marks e)) e (verdict_at s.admission.clock p.header.shape p.header.schema s.admission.marks s.admission.admitted e) refl

    -- and each of its firings what is stated for a pane
    pub fired_costs_within : (s : State (List Value)) → IsSoundState p s → (e : Event) → AllByRecursion (λ f. pane_cost_by p f ≤ p.header.budget.per_pane) (step_fires (plan_of p) (query_of p) s e)
    fired_costs_within s h e =
        all-each (MayFire p) (λ f. pane_cost_by p f ≤ p.header.budget.per_pane) (step_fires (plan_of p) (query_of p) s e) (fired_within p costs judged lawful) (step_fires_may p costs judged lawful s h e)
