use Rattle.std.proofs.Common.{◌≡◌, map}
use Rattle.wsm_windows.specs.Places.{at}
use Rattle.wsm_machine.specs.Meaning.{plan_of, query_of}
use Rattle.wsm_panes.specs.Held.{entries_of}
use Rattle.wsm_firing.specs.ByRecord.{AreInOrder}
use Rattle.wsm_firing.proofs.RetractAt.{number_at, withdrawn_at}
use Rattle.wsm_firing.proofs.RetractWalk.{HasPut}
use Rattle.wsm_firing.proofs.retracting.retract_each.Given as goal

-- what is left to withdraw is that at the windows that are left
abbrev pub invariant-loop-window : goal.invariant-loop-window
invariant-loop-window l = record {
  order : AreInOrder (map (at l.key) l.window-iterator);
  room : l.rows.room ≡ l.fn.rows.room;
  so_far : HasPut l.fn.rows.written l.rows.written
      (withdrawn_at (plan_of l.verified) (query_of l.verified) l.mark (map (at l.key) l.window-iterator) (entries_of l.held))
      (withdrawn_at (plan_of l.verified) (query_of l.verified) l.mark (map (at l.key) l.fn.windows) (entries_of l.held))
      (number_at (plan_of l.verified) (query_of l.verified) l.mark (map (at l.key) l.window-iterator) (entries_of l.held))
      (number_at (plan_of l.verified) (query_of l.verified) l.mark (map (at l.key) l.fn.windows) (entries_of l.held));
}
