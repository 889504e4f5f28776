use Rattle.wsm_fed.proofs.FedLemmas.{stand_same, went_all}
use Rattle.wsm_fed.proofs.fed.Fed.take.Goals as goal

pub returns-clause-went : goal.returns-clause-went
returns-clause-went c =
    went_all c.args.self.now c.loop-end.self c.add.new.self c.args.bytes.now c.loop-end.rest.now c.loop-end.invariant.took c.in_default.ensures.within
    (stand_same c.add.new.self c.loop-end.self c.in_ok-add.ensures.held c.in_ok-add.ensures.given) c.in_ok-add.ensures.most c.in_ok-add.ensures.part
