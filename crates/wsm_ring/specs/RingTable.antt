-- When what a ring of panes keeps belongs together.
use Rattle.std.specs.Prelude.{◌≡◌, ◌*◌, ◌+ℤ◌, length}
use Rattle.std.specs.Int.{w64}
use Rattle.std.specs.Int.RustNames.{FitsSigned}
use Rattle.wsm_ring.specs.declared.ring_table.RingTable.TheInside.{Inside}
use Rattle.wsm_ring.specs.Ring.{IsRing, IsRow, AreInPlace, AreBetween, IsOnGrid, held}

-- each entry is in its own slot, the windows from the first to the last have all entries, and the row
-- that is remembered is its window's
pub record IsSound (a : Inside) : Type 0 where
  pub ring : IsRing a.ring
  pub slots : length a.slots.slots ≡ a.ring.bound * a.ring.keys
  pub placed : AreInPlace a.ring a.slots.slots
  pub between : AreBetween a.first a.last a.slots.slots
  pub grid : IsOnGrid a.ring a.first
  pub first : FitsSigned w64 a.first
  pub last : FitsSigned w64 (a.last +ℤ a.ring.size)
  pub row : IsRow a.ring a.row
  pub len : a.len ≡ length (held a.slots.slots)
