-- What the turns of an accepted program come to, over every history: its runs end, and cost what is stated.
use Rattle.std.proofs.Common.{◌≡◌, ℕ, ◌≤◌, List, [], ◌∷◌, map, length, ℤ, Some, None, Ok, IsTrue, sym, subst, ◌∙◌}
use Rattle.std.specs.List.{AllByRecursion}
use Rattle.wsm_record.specs.declared.event.Value.{Value}
use Rattle.wsm_record.specs.Event.{Event, Record}
use Rattle.wsm_admission.specs.Clock.{admitted_count, marks_of}
use Rattle.wsm_semantics.specs.Query.{mark, verdict_on}
use Rattle.wsm_semantics.specs.Firings.{Firing, firings}
use Rattle.wsm_semantics.specs.Summaries.{summary_fired}
use Rattle.wsm_semantics.specs.Replay.{datum}
use Rattle.wsm_semantics.specs.Steps as steps
use Rattle.wsm_semantics.specs.Steps.{run, step_fires}
use Rattle.wsm_semantics.proofs.Steps.{fires-step}
use Rattle.wsm_program.specs.declared.instr.SectionId.TheVariants.{Where, Update, Fire}
use Rattle.wsm_program.specs.Program.{Program, is_program}
use Rattle.wsm_program.specs.declared.program.Costs.{Costs}
use Rattle.wsm_rules.specs.Rules.{judge}
use Rattle.wsm_rules.proofs.Lawful.{lawful as program_lawful}
use Rattle.wsm_firing.specs.Tally.{greatest}
use Rattle.wsm_machine.specs.Meaning.{query_of, plan_of, record_inputs, pane_inputs, record_cost, pane_cost, pane_cost_by}
use Rattle.wsm_machine.specs.Sound.{IsDatumInRange, MayFire}
use Rattle.wsm_machine.proofs.QueryFolds.{plan_lawful, plan_runs, folded_is}
use Rattle.wsm_machine.proofs.CountedSessions.{sessions_by_event}
use Rattle.wsm_machine.proofs.CompleteRuns.{completes}
use Rattle.wsm_machine.proofs.SoundSteps.{record_in_range}
use Rattle.wsm_machine.proofs.SoundFirings.{step_fires_may}
use Rattle.wsm_machine.proofs.Costs.{step_cost_is, step_cost_within, fired_costs_are, fired_costs_within}
use Rattle.wsm_machine.proofs.Histories as histories
use Rattle.wsm_engine.specs.Laws.{RecordEnds, FiringEnds}
use Rattle.wsm_engine.proofs.Within.{greatest_within}

module _ (p : Program) (costs : Costs) (judged : judge p ≡ Ok costs) (whole : IsTrue (is_program p)) (past : List Event) where
  abbrev ran : steps.State (List Value)
  ran = run (plan_of p) (query_of p) past

  pub record_ends : (key : ℕ) (time : ℤ) (values : List Value) → verdict_on (query_of p) past (Record (Some key) time values) ≡ None → RecordEnds p key values
  record_ends key time values taken =
      let ranged : IsDatumInRange p (datum 0 (mark (query_of p) past) key time values) =
      record_in_range p costs judged whole p.header.clock (marks_of p.header.clock p.header.schema past) (admitted_count p.header.clock p.header.shape p.header.schema past) 0 (mark (query_of p) past) key time values taken in
      record {
        selects = (completes p costs judged whole Where (record_inputs key values) ranged).done;
        updates = (completes p costs judged whole Update (record_inputs key values) ranged).done;
      }

  firing_ends : (f : Firing) → MayFire p (summary_fired (plan_of p) f) → FiringEnds p f
  firing_ends f may = record {
    held = may.held;
    folds = sym (folded_is p f.fired) ∙ may.folded;
    fires = (completes p costs judged whole Fire (pane_inputs f.place.key (length f.fired) may.held) may.ranged).done;
  }

  all_end : (fs : List Firing) → AllByRecursion (MayFire p) (map (summary_fired (plan_of p)) fs) → AllByRecursion (FiringEnds p) fs
  all_end [] h = tt
  all_end (f ∷ fs) h = (firing_ends f h.0, all_end fs h.1)

  -- FIRE may read what each firing is computed over
  pub firings_may : (e : Event) → AllByRecursion (MayFire p) (map (summary_fired (plan_of p)) (firings (query_of p) past e))
  firings_may e =
      let is = program_lawful p whole in
      subst (AllByRecursion (MayFire p)) (fires-step (plan_of p) (plan_lawful p) (query_of p) (plan_runs p) is.shape (sessions_by_event p whole) is.lateness.low ran e past (histories.fits p costs judged whole past))
      (step_fires_may p costs judged whole ran (histories.sound p costs judged whole past) e)

  pub firings_end : (e : Event) → AllByRecursion (FiringEnds p) (firings (query_of p) past e)
  firings_end e = all_end (firings (query_of p) past e) (firings_may e)

  pub record_spends : (e : Event) → record_cost p past e ≤ p.header.budget.per_record
  record_spends e = subst (λ n. n ≤ p.header.budget.per_record) (step_cost_is p whole ran e past (histories.fits p costs judged whole past)) (step_cost_within p costs judged whole ran e)

  pub panes_spend : (e : Event) → greatest (map (pane_cost p) (firings (query_of p) past e)) ≤ p.header.budget.per_pane
  panes_spend e =
      subst (λ ns. greatest ns ≤ p.header.budget.per_pane) (fired_costs_are p whole ran e past (histories.fits p costs judged whole past))
      (greatest_within (pane_cost_by p) p.header.budget.per_pane (step_fires (plan_of p) (query_of p) ran e) (fired_costs_within p costs judged whole ran (histories.sound p costs judged whole past) e))
