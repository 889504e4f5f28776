use Rattle.std.proofs.Common.{◌∙◌, sym, true}
use Rattle.wsm_journal.proofs.Searches.{is_at_front, not_here}
use Rattle.wsm_journal.proofs.records.mark_place.Goals as goal

pub returns-then-is_mark-clause-value : goal.returns-then-is_mark-clause-value
returns-then-is_mark-clause-value c = sym (is_at_front 0 c.args.text.now (sym c.is_mark.ensures.value ∙ c.if-is_mark.true))

pub returns-else-is_mark-clause-value : goal.returns-else-is_mark-clause-value
returns-else-is_mark-clause-value c = c.next_mark.ensures.value ∙ sym (not_here 0 true c.args.text.now (sym c.is_mark.ensures.value ∙ c.if-is_mark.false))
