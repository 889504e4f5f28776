use Rattle.std.proofs.Common.{◌≡◌, map}
use Rattle.wsm_doubles.specs.Entries.{entry_of}
use Rattle.wsm_saved.specs.Lists.{read_some}
use Rattle.wsm_saved.proofs.Listing.{behind}
use Rattle.wsm_saved_turns.specs.Turns.{read_entry}
use Rattle.wsm_saved_turns.proofs.doubles.restore_some.Given as goal

-- those that are left come behind those so far
abbrev pub invariant-loop-left : goal.invariant-loop-left
invariant-loop-left l = read_some read_entry l.count l.fn.from ≡ behind (map entry_of l.entries.items) (read_some read_entry l.left l.from)

abbrev pub decreases-loop-left : goal.decreases-loop-left
decreases-loop-left l = l.left
