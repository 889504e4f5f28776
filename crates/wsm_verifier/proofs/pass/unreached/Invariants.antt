use Rattle.std.proofs.Common.{◌≡◌, replicate}
use Rattle.wsm_rules.specs.Labels.{Unreached}
use Rattle.wsm_verifier.proofs.pass.unreached.Given as goal

abbrev pub invariant-loop : goal.invariant-loop
invariant-loop l = l.labels.items ≡ replicate l.counter Unreached
