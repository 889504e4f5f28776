use Rattle.std.proofs.Common.{refl, subst}
use Rattle.wsm_relation.specs.Delta.{IsDelta}
use Rattle.wsm_relation.specs.Kept.{Kept, numbers_in}
use Rattle.wsm_relation.proofs.Settled.{kept-delta}
use Rattle.wsm_relation.proofs.lists.Lists.make_place.Goals as goal

pub returns-then-len-self-clause-numbers : goal.returns-then-len-self-clause-numbers
returns-then-len-self-clause-numbers c =
    let a = c.self.inside in record {
      numbers = refl;
      room = refl;
      delta = subst (λ (k : Kept). IsDelta (numbers_in k)) c.self.view_is (kept-delta a.rows.items a.told.items a.standing.items c.self.invariant.kept);
    }
