use Rattle.std.proofs.Common.{◌≡◌, map}
use Rattle.wsm_saved.specs.Lists.{read_some}
use Rattle.wsm_saved.proofs.Listing.{behind}
use Rattle.wsm_saved.proofs.saved.restore_some.Given as goal

-- those that are left come behind those so far
abbrev pub invariant-loop-left : goal.invariant-loop-left
invariant-loop-left g l = read_some g.T.Saved.read l.count l.fn.from ≡ behind (map g.T.Saved.shown l.values.items) (read_some g.T.Saved.read l.left l.from)

abbrev pub decreases-loop-left : goal.decreases-loop-left
decreases-loop-left g l = l.left
