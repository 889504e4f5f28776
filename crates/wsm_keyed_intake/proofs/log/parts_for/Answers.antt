use Rattle.std.proofs.Common.{◌∙◌, sym}
use Rattle.std.proofs.lemmas.Bool.{true≢false}
use Rattle.wsm_ends.specs.declared.keyed_log.KeyedLogStop.{KeyedLogStop}
use Rattle.wsm_ends.specs.declared.keyed_log.KeyedLogStop.TheVariants as stops
use Rattle.wsm_keyed_intake.specs.KeyedLog.{KeyedLog}
use Rattle.wsm_keyed_intake.specs.Stops.{IsUnopened, IsUnrun}
use Rattle.wsm_keyed_intake.proofs.log.parts_for.Goals as goal

unrun_of : (k : KeyedLog) (stop : KeyedLogStop) → IsUnopened k.program stop → IsUnrun k stop
unrun_of k stops.Streams h = h
unrun_of k stops.ReadsKey h = h
unrun_of k stops.KeyTable h = absurd h
unrun_of k stops.KeyClocks h = absurd h
unrun_of k (stops.End end) h = h

pub returns-then-not-has_own_names-clause-unrun : goal.returns-then-not-has_own_names-clause-unrun
returns-then-not-has_own_names-clause-unrun c = λ names most. sym c.has_own_names.ensures ∙ c.if-not-has_own_names.true

pub returns-then-not-are_named-clause-unrun : goal.returns-then-not-are_named-clause-unrun
returns-then-not-are_named-clause-unrun c = λ names most named. true≢false (sym (c.are_named.ensures.1 named) ∙ c.if-not-are_named.true)

pub returns-in-Err-clause-unrun : goal.returns-in-Err-clause-unrun
returns-in-Err-clause-unrun c = λ names most.
    let k : KeyedLog = record { program = c.args.verified; source = c.args.source.now; clocks = c.args.clocks; names = names; most = most } in
    unrun_of k c.in-Err.stop c.in-Err.ensures.unopened
