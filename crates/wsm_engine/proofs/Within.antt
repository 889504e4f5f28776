-- What fits a history of a verified program is sound, so its firings cost no more than the program states.
use Rattle.std.proofs.Common.{◌≡◌, ℕ, ◌≤◌, List, [], ◌∷◌, map, Ok, IsTrue, sym, ap, subst, ◌∙◌, arith, unsigned_abs}
use Rattle.std.proofs.lemmas.Int.{ints}
use Rattle.std.specs.List.{AllByRecursion}
use Rattle.wsm_record.specs.declared.event.Value.{Value}
use Rattle.wsm_record.specs.Event.{Event}
use Rattle.wsm_admission.specs.declared.clock.Clock.{Clock}
use Rattle.wsm_admission.specs.Clock.{admitted_count}
use Rattle.wsm_semantics.specs.Summaries.{Fired}
use Rattle.wsm_semantics.specs.Steps.{step_fires}
use Rattle.wsm_program.specs.Program.{is_program}
use Rattle.wsm_program.specs.declared.program.Costs.{Costs}
use Rattle.wsm_rules.specs.Rules.{judge}
use Rattle.wsm_machine.specs.Meaning.{query_of, plan_of, pane_cost_by}
use Rattle.wsm_machine.specs.Sound.{AreSound, IsSoundState}
use Rattle.wsm_machine.proofs.Costs.{fired_costs_within}
use Rattle.wsm_firing.specs.Tally.{greatest}
use Rattle.wsm_engine.specs.State.{State}
use Rattle.wsm_engine.specs.Meaning.{Fits}
use Rattle.wsm_engine.proofs.HeldByHistory.{admitted, kept_sound, admitted_few}

-- the greatest of some costs is at most their bound
pub greatest_within : (f : Fired (List Value) → ℕ) (most : ℕ) (fs : List (Fired (List Value))) → AllByRecursion (λ x. f x ≤ most) fs → greatest (map f fs) ≤ most
greatest_within f most [] h = omega arith
greatest_within f most (x ∷ fs) h = omega (arith, h.0, greatest_within f most fs h.1)

module _ (s : State) (costs : Costs) (judged : judge s.program ≡ Ok costs) (lawful : IsTrue (is_program s.program)) (past : List Event) (fits : Fits s past) where
  as_many : s.machine.admission.admitted ≡ admitted s.program costs judged lawful past
  as_many = fits.admission.admitted ∙ ap (λ (c : Clock). admitted_count c s.program.header.shape s.program.header.schema past) fits.clock

  sound_of : IsSoundState s.program s.machine
  sound_of = record {
    clock = fits.clock;
    admitted = subst (λ (c : Clock). s.machine.admission.admitted ≤ unsigned_abs c.records) (sym fits.clock) (subst (λ n. n ≤ unsigned_abs s.program.header.clock.records) (sym as_many) few);
    panes = subst (λ n. AreSound s.program n s.machine.panes) (sym as_many) (subst (AreSound s.program (admitted s.program costs judged lawful past)) (sym fits.panes) (kept_sound s.program costs judged lawful past));
  } where
    few : admitted s.program costs judged lawful past ≤ unsigned_abs s.program.header.clock.records
    few = let h = admitted_few s.program costs judged lawful past in omega (arith, ints, h)

  -- the firings of a turn cost at most what is stated
  pub firings_within : (e : Event) → greatest (map (pane_cost_by s.program) (step_fires (plan_of s.program) (query_of s.program) s.machine e)) ≤ s.program.header.budget.per_pane
  firings_within e = greatest_within (pane_cost_by s.program) s.program.header.budget.per_pane _ (fired_costs_within s.program costs judged lawful s.machine sound_of e)
