use Rattle.std.proofs.Common.{◌∙◌}
use Rattle.wsm_journal.proofs.Searches.{rows_none, rows_some}
use Rattle.wsm_journal.proofs.writing.are_rows.Goals as goal

pub returns-in-None : goal.returns-in-None
returns-in-None c = c.ends_line.ensures ∙ rows_none c.args.rows.now c.in-None.ensures.value

pub returns-in-Some : goal.returns-in-Some
returns-in-Some c = rows_some c.args.rows.now _ c.in-Some.ensures.value
