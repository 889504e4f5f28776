use Rattle.std.proofs.Common.{refl}
use Rattle.wsm_live_run.proofs.KeyedLemmas.{names_had}
use Rattle.wsm_live_run.proofs.keyed_log_lines.KeyedLogLines.open.Goals as goal

pub invariant_of-result-clause-are_named : goal.invariant_of-result-clause-are_named
invariant_of-result-clause-are_named c = names_had c.args.clocks c.in-Ok.ensures.named

pub returns-in-Ok-clause-stands : goal.returns-in-Ok-clause-stands
returns-in-Ok-clause-stands c = record { clocks = refl; goes_on = c.in-Ok.ensures.goes_on; turns = λ later. refl }
