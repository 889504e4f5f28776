-- When what a list of panes keeps belongs together.
use Rattle.std.specs.Prelude.{◌≡◌, length}
use Rattle.wsm_list.specs.declared.list.ListTable.TheInside.{Inside}
use Rattle.wsm_list.specs.Stored.{AreListed, AreStored}

-- the slots in the row, and no others, have the entries in order, and there is a number for each slot
pub record IsSound (a : Inside) : Type 0 where
  pub stored : AreStored a.slots.slots a.row.row
  pub listed : AreListed a.slots.slots a.row.row
  pub room : a.row.room ≡ length a.slots.slots
