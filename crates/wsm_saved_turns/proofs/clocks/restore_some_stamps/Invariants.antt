use Rattle.std.proofs.Common.{◌≡◌}
use Rattle.wsm_saved.specs.Lists.{read_some}
use Rattle.wsm_saved.proofs.Listing.{behind}
use Rattle.wsm_saved_turns.specs.Turns.{read_said}
use Rattle.wsm_saved_turns.proofs.clocks.restore_some_stamps.Given as goal

-- those that are left come behind those so far
abbrev pub invariant-loop-left : goal.invariant-loop-left
invariant-loop-left l = read_some read_said l.count l.fn.from ≡ behind l.stamps.items (read_some read_said l.left l.from)

abbrev pub decreases-loop-left : goal.decreases-loop-left
decreases-loop-left l = l.left
