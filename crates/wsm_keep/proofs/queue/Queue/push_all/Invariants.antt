use Rattle.std.proofs.Common.{◌≡◌, ◌++◌, take}
use Rattle.wsm_keep.specs.Items.{queue_of}
use Rattle.wsm_keep.proofs.queue.Queue.push_all.Given as goal

-- the rows so far are added
abbrev pub invariant-loop-item : goal.invariant-loop-item
invariant-loop-item l = l.self ≡ queue_of l.texts (take l.item-index l.items) ++ l.fn.self
