use Rattle.std.proofs.Common.{◌∙◌, sym, arith}
use Rattle.wsm_journal.proofs.ReadLemmas.{later_here, later_next}
use Rattle.wsm_journal.proofs.reading.is_damaged.Goals as goal

pub returns-then-is_whole_later : goal.returns-then-is_whole_later
returns-then-is_whole_later c =
    sym (c.loop-i.invariant ∙ later_here c.args.last c.args.text.now c.loop-i.i c.loop-i.begins (omega arith) (sym c.is_whole_later.ensures ∙ c.if-is_whole_later.true))

pub loop-i-preserved : goal.loop-i-preserved
loop-i-preserved c =
    c.loop-i.invariant ∙ later_next c.args.last c.args.text.now c.loop-i.i c.loop-i.begins (omega arith) (sym c.is_whole_later.ensures ∙ c.if-is_whole_later.false)
