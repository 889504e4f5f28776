-- The first items of a list, and those behind them.
use Rattle.std.specs.Prelude.{◌≡◌, ◌+◌, ◌-◌, ◌<◌, ◌≤◌, ℕ, List, length, min}
use Rattle.wsm_tiers.specs.Listed.{Listed}
use Rattle.wsm_tiers.specs.declared.far.TheConstants.{TIER}

-- the first items are a tier's, or all where nothing is behind them; and there is room for those that there may be
pub record IsNearFirst {T : Type 0} (room count : ℕ) (near : List T) (capacity : ℕ) (far : Listed T) : Type 0 where
  pub few : length near ≤ TIER
  pub full : length near < TIER → length far.items ≡ 0
  pub wide : capacity ≡ min room TIER
  pub rest : far.room ≡ room - TIER
  pub counted : count ≡ length near + length far.items
  pub within : count ≤ room
