use Rattle.wsm_semantics.specs.Query.{Query}
use Rattle.wsm_machine.specs.Meaning.{query_of}
use Rattle.wsm_kept.proofs.Unseen.{adds_up}
use Rattle.wsm_kept.proofs.laws.adds_up.Goals as goal

pub returns : goal.returns
returns c = λ p whole sum old past more room counted.
    let q : Query = query_of p in
    adds_up q sum old past (c.goes_on.ensures p whole q.clock.records past _) more room counted
