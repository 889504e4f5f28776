use Rattle.std.proofs.Common.{arith}
use Rattle.wsm_live.proofs.HeadLemmas.{adds_cut}
use Rattle.wsm_live.proofs.run.LiveRun.save.Goals as goal

pub returns-clause-still : goal.returns-clause-still
returns-clause-still g c = λ by before behind. record { taken = c.in_ok-is_said.ensures.stands by before behind.taken; count = behind.count; sum = behind.sum }

pub returns-clause-row : goal.returns-clause-row
returns-clause-row g c = λ said.
    adds_cut g.T.LineTaker.turn g.T.LineTaker.stands g.T.LineTaker.states c.args.self.now c.args.rows.now.items c.add_front.new.row.items c.save.new.text.items c.push.new.self.items c.count.result c.sum.result
    c.count.ensures c.sum.ensures (omega arith) (omega arith) c.in_ok-add_front.ensures c.in_ok-is_said.ensures.grows c.in_ok-push.ensures.items (λ by before stood. c.in_ok-is_said.ensures.states by before stood said)
