use Rattle.std.proofs.Common.{◌≡◌, take}
use Rattle.wsm_list.specs.Stored.{AreFreed}
use Rattle.wsm_list.proofs.list.clear_first.Given as goal

abbrev pub invariant-loop-i : goal.invariant-loop-i
invariant-loop-i l = record {
  freed : AreFreed (take l.i l.row.row) l.fn.slots.slots l.slots.slots;
  widths : l.slots.widths ≡ l.fn.slots.widths;
}
