use Rattle.std.proofs.Common.{◌≡◌, ◌++◌, ℕ, List, map, take}
use Rattle.std.specs.List.{All}
use Rattle.wsm_keep.specs.Items.{Lies, behind}
use Rattle.wsm_keep.proofs.queue.add_behind.Given as goal

-- the items so far are added, and lie where all do
abbrev pub invariant-loop-item : goal.invariant-loop-item
invariant-loop-item l =
    (l.items.items ≡ l.fn.items.items ++ map (behind l.front) (take l.item-index l.newer))
    × ((texts : List ℕ) → All (Lies texts) l.fn.items.items → All (λ i. Lies texts (behind l.front i)) l.newer → All (Lies texts) l.items.items)
