use Rattle.std.proofs.Common.{◌∙◌, is_none, ap}
use Rattle.wsm_journal.proofs.Searches.{no_end, none_is}
use Rattle.wsm_journal.proofs.marks.has_no_line_feed.Goals as goal

pub returns : goal.returns
returns c = none_is c.is_none.result c.line_end.result c.is_none.ensures ∙ ap is_none c.line_end.ensures.value ∙ no_end 0 c.args.bytes.now
