use Rattle.std.specs.Prelude.{Some}
use Rattle.wsm_log_text.specs.LogText.{said}
use Rattle.wsm_row_laws.proofs.ClockedSources.{leave_mark}
use Rattle.wsm_row_laws.proofs.laws.counts_deliveries.Goals as goal

pub returns-clause-so_far : goal.returns-clause-so_far
returns-clause-so_far c = λ s q clocks lines ok. c.feeds_deliveries.ensures.so_far q clocks (said s (Some clocks) q.declared lines) ok (leave_mark q.declared s (Some clocks) lines)

pub returns-clause-at_end : goal.returns-clause-at_end
returns-clause-at_end c = λ s q clocks lines ok. c.feeds_deliveries.ensures.at_end q clocks (said s (Some clocks) q.declared lines) ok (leave_mark q.declared s (Some clocks) lines)

pub returns-clause-once : goal.returns-clause-once
returns-clause-once c = λ s q clocks lines ok. c.feeds_deliveries.ensures.once q clocks (said s (Some clocks) q.declared lines) ok (leave_mark q.declared s (Some clocks) lines)
