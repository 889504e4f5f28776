use Rattle.std.proofs.Common.{ap, arith, length, length-drop}
use Rattle.wsm_replace.proofs.lines.WholeLines.refill.Goals as goal

pub returns-then-self-len-clause-end : goal.returns-then-self-len-clause-end
returns-then-self-len-clause-end g c = λ ready none.
    let self = c.args.self.now in
    absurd (omega (arith, c.if-self-len.true, c.len.ensures, ap length none, length-drop self.given self.lines.items))
