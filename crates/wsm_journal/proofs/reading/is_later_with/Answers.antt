use Rattle.std.proofs.Common.{◌∙◌, arith, sym}
use Rattle.wsm_journal.specs.Seen.{mark_seen}
use Rattle.wsm_journal.proofs.ReadLemmas.{later_not, later_so}
use Rattle.wsm_journal.proofs.reading.is_later_with.Goals as goal

pub returns-then-may_be_later : goal.returns-then-may_be_later
returns-then-may_be_later c =
    c.is_some.ensures ∙ later_so c.args.last c.args.begins c.args.text.now c.args.at (mark_seen c.args.mark.now) c.whole_with.result (omega (arith, c.requires)) (sym c.may_be_later.ensures ∙ c.if-may_be_later.true) c.whole_with.ensures.value

pub returns-else-may_be_later : goal.returns-else-may_be_later
returns-else-may_be_later c =
    later_not c.args.last c.args.begins c.args.text.now c.args.at (mark_seen c.args.mark.now) (omega (arith, c.requires)) (sym c.may_be_later.ensures ∙ c.if-may_be_later.false)
