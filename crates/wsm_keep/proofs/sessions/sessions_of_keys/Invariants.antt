use Rattle.std.proofs.Common.{ℕ, List, take}
use Rattle.wsm_keep.specs.Items.{queue_of}
use Rattle.wsm_keep.specs.OfKeys.{AreOfKeys}
use Rattle.wsm_keep.proofs.sessions.sessions_of_keys.Given as goal

abbrev pub invariant-loop-item : goal.invariant-loop-item
invariant-loop-item l = (texts : List ℕ) → AreOfKeys l.fn.parting.gap l.keys.items (queue_of texts (take l.item-index l.items))
