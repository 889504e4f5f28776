use Rattle.wsm_live.proofs.RowLemmas.{line_ended}
use Rattle.wsm_live.proofs.rows.line_end.Goals as goal

pub returns : goal.returns
returns c = line_ended c.args.text.now c.memchr.result c.memchr.ensures
