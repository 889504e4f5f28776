use Rattle.std.proofs.Common.{◌≡◌, ◌≤◌, ◌-◌, length}
use Rattle.wsm_machine.specs.Run.{run_at}
use Rattle.wsm_machine.specs.Steps.{setting_of, at}
use Rattle.wsm_machine.proofs.Runs.{more}
use Rattle.wsm_machine.proofs.frame.Frame.run.Given as goal

abbrev pub invariant-loop-place : goal.invariant-loop-place
invariant-loop-place l = record {
  so_far : more l.steps (run_at (setting_of l.setting) (at l.place l.self)) ≡ run_at (setting_of l.setting) (at 0 l.fn.self);
  steps : l.steps ≤ l.place;
  folds : length l.self.folds ≡ length l.setting.kinds.now;
}

-- the places that are left
abbrev pub decreases-loop-place : goal.decreases-loop-place
decreases-loop-place l = length l.code - l.place
