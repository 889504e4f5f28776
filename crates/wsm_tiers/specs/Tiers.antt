-- Tiers of items.
use Rattle.std.specs.Prelude.{◌≡◌, ◌<◌, ◌≤◌, ◌*◌, ◌-◌, ℕ, List, length, min, get_or}
use Rattle.std.specs.List.{flat_map}
use Rattle.std.specs.VecDeque.{deque_capacity, deque_items, deque_len}
use Rattle.std.specs.declared.collections.VecDeque.{VecDeque}
use Rattle.wsm_tiers.specs.declared.far.TheConstants.{TIER}

module _ {T Z : Type 0} where
  -- the items of tiers, in their order
  abbrev pub joined : List (VecDeque T Z) → List T
  joined = flat_map deque_items

  -- so many items are in tiers with room for a tier's, and no more: each has as many as it can of those that the tiers before it leave
  pub record AreFilled (count : ℕ) (tiers : List (VecDeque T Z)) : Type 0 where
    pub each : (k : ℕ) (d : VecDeque T Z) → k < length tiers → deque_len (get_or tiers k d) ≡ min TIER (count - TIER * k)
    pub wide : (k : ℕ) (d : VecDeque T Z) → k < length tiers → deque_capacity (get_or tiers k d) ≡ TIER
    pub within : count ≤ TIER * length tiers
