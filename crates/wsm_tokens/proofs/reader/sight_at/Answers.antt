use Rattle.std.proofs.Common.{arith}
use Rattle.wsm_tokens.proofs.Text.{at_end, at_token, at_fault}
use Rattle.wsm_tokens.proofs.reader.sight_at.Goals as goal

pub returns-then-offset-text : goal.returns-then-offset-text
returns-then-offset-text c = at_end c.args.text.now c.args.offset (omega arith)

pub returns-in-Token : goal.returns-in-Token
returns-in-Token c =
    let s = rw c.in-Token.is at c.first_of.ensures in
    let t = at_token c.args.text.now _ c.args.offset _ c.in-Token.more c.split_at.ensures.back c.requires.within s.0 s.2 in
    (t.0, s.1, t.1)

pub returns-in-Fault : goal.returns-in-Fault
returns-in-Fault c =
    let s = rw c.in-Fault.is at c.first_of.ensures in
    at_fault c.args.text.now _ c.args.offset _ c.in-Fault.on c.split_at.ensures.back s.0 s.1
