-- The runs of a turn take no more steps than the longest paths of their sections have, over every history.
use Rattle.std.proofs.Common.{◌≡◌, ℕ, ◌≤◌, List, [], ◌∷◌, map, length, ℤ, Some, None, Ok, IsTrue, sym, subst, ◌∙◌}
use Rattle.std.specs.List.{AllByRecursion}
use Rattle.wsm_record.specs.declared.event.Value.{Value}
use Rattle.wsm_record.specs.Event.{Event, Record}
use Rattle.wsm_admission.specs.Clock.{admitted_count, marks_of}
use Rattle.wsm_semantics.specs.Query.{mark, verdict_on}
use Rattle.wsm_semantics.specs.Firings.{Firing, firings}
use Rattle.wsm_semantics.specs.Summaries.{summary_fired}
use Rattle.wsm_semantics.specs.Replay.{datum}
use Rattle.wsm_program.specs.declared.instr.SectionId.TheVariants.{Where, Update, Fire}
use Rattle.wsm_program.specs.Program.{Program, is_program}
use Rattle.wsm_program.specs.declared.program.Costs.{Costs}
use Rattle.wsm_rules.specs.Costs.{longest_path}
use Rattle.wsm_rules.specs.Rules.{judge}
use Rattle.wsm_machine.specs.Meaning.{query_of, plan_of, record_inputs, pane_inputs, fire_steps, pane_cost}
use Rattle.wsm_machine.specs.Sound.{IsDatumInRange, MayFire}
use Rattle.wsm_machine.proofs.QueryFolds.{folded_is}
use Rattle.wsm_machine.proofs.CompleteRuns.{steps_within}
use Rattle.wsm_machine.proofs.SoundSteps.{record_in_range}
use Rattle.wsm_engine.specs.Laws.{RecordPaths}
use Rattle.wsm_engine.proofs.StatedCosts.{firings_may}

module _ (p : Program) (costs : Costs) (judged : judge p ≡ Ok costs) (whole : IsTrue (is_program p)) (past : List Event) where
  pub record_paths : (key : ℕ) (time : ℤ) (values : List Value) → verdict_on (query_of p) past (Record (Some key) time values) ≡ None → RecordPaths p key values
  record_paths key time values taken =
      let ranged : IsDatumInRange p (datum 0 (mark (query_of p) past) key time values) =
      record_in_range p costs judged whole p.header.clock (marks_of p.header.clock p.header.schema past) (admitted_count p.header.clock p.header.shape p.header.schema past) 0 (mark (query_of p) past) key time values taken in
      record {
        selects = steps_within p costs judged whole Where (record_inputs key values) ranged;
        updates = steps_within p costs judged whole Update (record_inputs key values) ranged;
      }

  firing_path : (f : Firing) → MayFire p (summary_fired (plan_of p) f) → pane_cost p f ≤ longest_path p.fire
  firing_path f may =
      subst (λ o. fire_steps p f.place.key (length f.fired) o ≤ longest_path p.fire) (sym may.folded ∙ folded_is p f.fired)
      (steps_within p costs judged whole Fire (pane_inputs f.place.key (length f.fired) may.held) may.ranged)

  all_paths : (fs : List Firing) → AllByRecursion (MayFire p) (map (summary_fired (plan_of p)) fs) → AllByRecursion (λ f. pane_cost p f ≤ longest_path p.fire) fs
  all_paths [] h = tt
  all_paths (f ∷ fs) h = (firing_path f h.0, all_paths fs h.1)

  pub firing_paths : (e : Event) → AllByRecursion (λ f. pane_cost p f ≤ longest_path p.fire) (firings (query_of p) past e)
  firing_paths e = all_paths (firings (query_of p) past e) (firings_may p costs judged whole past e)
