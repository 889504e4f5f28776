use Rattle.wsm_kept.proofs.Written.{none_behind}
use Rattle.wsm_kept.proofs.write.write_rest.Goals as goal

pub returns-then-at_end-clause-written : goal.returns-then-at_end-clause-written
returns-then-at_end-clause-written g c = λ known past read. none_behind known past (g.D.Device.taken c.args.out.now) (rw c.if-at_end.true at read)

pub returns-else-at_end-clause-written : goal.returns-else-at_end-clause-written
returns-else-at_end-clause-written g c = λ known past read. c.write_behind.ensures.written known past (rw c.if-at_end.false at read)

pub returns-else-at_end-clause-begun : goal.returns-else-at_end-clause-begun
returns-else-at_end-clause-begun g c = λ known past read. c.write_behind.ensures.begun known past (rw c.if-at_end.false at read)
