use Rattle.std.proofs.Common.{◌≡◌, ◌++◌, map, take}
use Rattle.wsm_keep.specs.Items.{joined, queue_of}
use Rattle.wsm_keep.specs.Staying.{row_of}
use Rattle.wsm_keep.proofs.queue.add_all.Given as goal

-- the texts of the rows so far are added
abbrev pub invariant-loop-item : goal.invariant-loop-item
invariant-loop-item l = l.text.items ≡ l.fn.text.items ++ joined (map row_of (queue_of l.texts (take l.item-index l.items)))
