use Rattle.std.proofs.Common.{sym, ◌∙◌}
use Rattle.wsm_ring.proofs.Placed.{len_in}
use Rattle.wsm_ring.proofs.ring_table.RingTablePaneTablePane.len.Goals as goal

pub returns : goal.returns
returns c = rw (← c.self.view_is) (c.self.invariant.len ∙ sym (len_in c.self.inside.ring c.self.inside.slots.slots c.self.invariant.placed))
