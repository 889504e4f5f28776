use Rattle.std.proofs.Common.{ap, nat_eq, sym}
use Rattle.wsm_tiers.proofs.Filled.{count}
use Rattle.wsm_tiers.proofs.far.Far.is_empty.Goals as goal

pub returns : goal.returns
returns g c = rw (← c.self.view_is) (ap (λ n. nat_eq n 0) (sym (count c.self.inside.tiers.items c.self.inside.len c.self.invariant.0)))
