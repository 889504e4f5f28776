use Rattle.std.proofs.Common.{◌∙◌, sym}
use Rattle.wsm_machine.specs.Meaning.{query_of}
use Rattle.wsm_kept.proofs.Counted.{counted_is}
use Rattle.wsm_kept.proofs.Passed.{counts_kept}
use Rattle.wsm_kept.proofs.own.own_counts.Goals as goal

pub returns-then-writes_sessions : goal.returns-then-writes_sessions
returns-then-writes_sessions c = λ past has is.
    c.counted.ensures ∙ counted_is c.args.verified past c.args.remains (sym c.writes_sessions.ensures ∙ c.if-writes_sessions.true) has

pub returns : goal.returns
returns c = λ past has is. counts_kept (query_of c.args.verified) past c.args.text.now is c.counts_over.result c.counts_over.ensures
