-- Verified programs over any history: what the accumulators of a pane hold, and how many records
-- sessions have together.
use Rattle.std.proofs.Common.{◌≡◌, List, Ok, IsTrue}
use Rattle.wsm_record.specs.Event.{Event}
use Rattle.wsm_semantics.specs.Steps.{Fits, run}
use Rattle.wsm_semantics.proofs.Steps.{Fits-run}
use Rattle.wsm_program.specs.Program.{Program, is_program}
use Rattle.wsm_program.specs.declared.program.Costs.{Costs}
use Rattle.wsm_rules.specs.Rules.{judge}
use Rattle.wsm_rules.proofs.Lawful.{lawful as program_lawful}
use Rattle.wsm_machine.specs.Meaning.{query_of, plan_of}
use Rattle.wsm_machine.specs.Sound.{IsSoundState}
use Rattle.wsm_machine.proofs.QueryFolds.{plan_lawful, plan_runs}
use Rattle.wsm_machine.proofs.CountedSessions.{sessions_by_event}
use Rattle.wsm_machine.proofs.SoundSteps.{sound_run}

module _ (p : Program) (costs : Costs) (judged : judge p ≡ Ok costs) (lawful : IsTrue (is_program p)) (past : List Event) where
  pub fits : Fits (plan_of p) (query_of p) (run (plan_of p) (query_of p) past) past
  fits = let is = program_lawful p lawful in Fits-run (plan_of p) (plan_lawful p) (query_of p) (plan_runs p) is.shape (sessions_by_event p lawful) is.lateness.low past

  pub sound : IsSoundState p (run (plan_of p) (query_of p) past)
  sound = sound_run p costs judged lawful past
