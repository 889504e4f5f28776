-- What a history of a verified program says of the panes that are held.
use Rattle.std.proofs.Common.{◌≡◌, ℕ, ◌≤◌, List, length, pos, ◌≤ℤ◌, Ok, IsTrue, sym, ap, subst, ◌∙◌}
use Rattle.wsm_record.specs.declared.event.Value.{Value}
use Rattle.wsm_record.specs.Event.{Event}
use Rattle.wsm_windows.specs.declared.place.Place.{Place}
use Rattle.wsm_admission.specs.declared.clock.Clock.{Clock}
use Rattle.wsm_admission.specs.Clock.{admitted_count}
use Rattle.wsm_semantics.specs.HeldBounds.{most_panes}
use Rattle.wsm_semantics.specs.Kept.{Kept, kept}
use Rattle.wsm_semantics.specs.Summaries.{Pane, summaries, pane_of}
use Rattle.wsm_semantics.specs.Steps.{run}
use Rattle.wsm_semantics.proofs.Lists.{length_each}
use Rattle.wsm_semantics.proofs.HeldBound.{kept_bounded}
use Rattle.wsm_program.specs.Program.{Program, is_program}
use Rattle.wsm_program.specs.declared.program.Costs.{Costs}
use Rattle.wsm_rules.specs.Rules.{judge}
use Rattle.wsm_rules.proofs.Lawful.{lawful as program_lawful}
use Rattle.wsm_machine.specs.Meaning.{query_of, plan_of}
use Rattle.wsm_machine.specs.Sound.{AreSound, IsSoundState}
use Rattle.wsm_machine.proofs.CountedSessions.{sessions_by_event}
use Rattle.wsm_machine.proofs.Histories as histories
use Rattle.wsm_machine.proofs.SoundSteps.{admitted_within}
use Rattle.wsm_engine.proofs.Limits.{clock_within}

abbrev pub Panes : Type 0
Panes = List (Place × Pane (List Value))

module _ (p : Program) (costs : Costs) (judged : judge p ≡ Ok costs) (lawful : IsTrue (is_program p)) (past : List Event) where
  -- how many records were admitted
  abbrev pub admitted : ℕ
  admitted = admitted_count p.header.clock p.header.shape p.header.schema past

  -- what a program keeps of the held panes
  abbrev pub kept_panes : Panes
  kept_panes = summaries (plan_of p) p.header.mode (kept (query_of p) past)

  abbrev state : Type 0
  state = IsSoundState p (run (plan_of p) (query_of p) past)

  counted : (run (plan_of p) (query_of p) past).admission.admitted ≡ admitted
  counted =
      let there = histories.fits p costs judged lawful past in
      there.admission.admitted ∙ ap (λ (c : Clock). admitted_count c p.header.shape p.header.schema past) there.clock

  -- it is sound
  pub kept_sound : AreSound p admitted kept_panes
  kept_sound =
      let sound : state = histories.sound p costs judged lawful past in
      subst (AreSound p admitted) (histories.fits p costs judged lawful past).panes
      (subst (λ n. AreSound p n (run (plan_of p) (query_of p) past).panes) counted sound.panes)

  -- and of no more records than the program allows
  pub admitted_few : pos admitted ≤ℤ p.header.clock.records
  admitted_few = subst (λ n. pos n ≤ℤ p.header.clock.records) counted (admitted_within p costs judged lawful (run (plan_of p) (query_of p) past) (histories.sound p costs judged lawful past))

  length_kept : length kept_panes ≡ length (kept (query_of p) past)
  length_kept = length_each (λ (e : Place × Kept). (e.0, pane_of (plan_of p) p.header.mode e.0.key e.1)) (kept (query_of p) past)

  -- they are at most as many as can be held
  pub kept_within : length kept_panes ≤ most_panes (query_of p)
  kept_within = subst (λ n. n ≤ most_panes (query_of p)) (sym length_kept) (kept_bounded (query_of p) (program_lawful p lawful).shape (sessions_by_event p lawful) (clock_within p lawful) past)
