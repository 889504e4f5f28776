use Rattle.wsm_journal.proofs.Searches.{end_found_first}
use Rattle.wsm_journal.proofs.marks.line_end.Goals as goal

pub returns-clause-value : goal.returns-clause-value
returns-clause-value c = end_found_first c.args.text.now c.memchr.result c.memchr.ensures
