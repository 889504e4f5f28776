use Rattle.std.proofs.Common.{◌≡◌, [], length}
use Rattle.std.specs.List.{All}
use Rattle.wsm_keep.specs.Items.{Lies, times_of}
use Rattle.wsm_keep.specs.Staying.{thinned, done_by}
use Rattle.wsm_keep.proofs.Items.{left_of}
use Rattle.wsm_keep.proofs.queue.Queue.thinned.Given as goal

-- what stays so far, with what will of the rest, is all that stays
abbrev pub invariant-loop-item : goal.invariant-loop-item
invariant-loop-item l =
    (left_of l.texts.items (times_of l.firsts) l.kept.items l.told.items l.items.items ≡ thinned done_by (times_of l.firsts) [] l.fn.self)
    × All (Lies l.texts.items) l.kept.items × All (Lies l.texts.items) l.items.items

abbrev pub decreases-loop-item : goal.decreases-loop-item
decreases-loop-item l = length l.items.items
