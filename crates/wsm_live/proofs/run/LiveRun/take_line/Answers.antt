use Rattle.std.proofs.Common.{◌∙◌}
use Rattle.wsm_live.proofs.RunLemmas.{line_taken}
use Rattle.wsm_live.proofs.run.LiveRun.take_line.Goals as goal

pub returns-clause-takes : goal.returns-clause-takes
returns-clause-takes g c = λ by before behind.
    let old = c.args.self.now in
    line_taken g.T.LineTaker.turn g.T.LineTaker.stands old (record old { taker = c.take.new.self; numbering = c.add.new.self; told = c.add.new.out }) by before c.args.line.now c.written.result.now old.told.items c.add.new.out.items behind
    (c.in_ok-take.ensures.stands by before behind.taken) (c.written.ensures ∙ c.in_ok-take.ensures.written by before behind.taken)
    c.in_ok-add.ensures.count c.in_ok-add.ensures.sum c.in_ok-add.ensures.text
