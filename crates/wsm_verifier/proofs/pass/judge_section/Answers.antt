use Rattle.std.proofs.Common.{Some, sym, ap, ◌∙◌, arith}
use Rattle.wsm_verifier.specs.Trying.{setting_of}
use Rattle.wsm_verifier.specs.Turning.{unfolded}
use Rattle.wsm_verifier.proofs.PassKept.{stands_passed, stands_turned, stands_refused, written}
use Rattle.wsm_verifier.proofs.pass.judge_section.Goals as goal

pub returns-in-Some-clause-refused : goal.returns-in-Some-clause-refused
returns-in-Some-clause-refused c =
    stands_refused (setting_of c.args.setting.now) (unfolded c.args.accumulators c.args.fields.now) c.args.code.now c.loop-place.place _ c.loop-place.labels.items c.deref_mut.result.now c.args.accumulators c.loop-place.folded.items c.in-Some.rule
    c.loop-place.invariant (omega arith) c.deref_mut.ensures.value (c.in_ok-rule.ensures.fault ∙ c.in-Some.is)
    ∙ ap Some (sym c.rejection_at-in-Some.ensures)

pub loop-place-preserved : goal.loop-place-preserved
loop-place-preserved c =
    stands_turned (setting_of c.args.setting.now) (unfolded c.args.accumulators c.args.fields.now) c.args.code.now c.loop-place.place _ _
    c.loop-place.labels.items c.deref_mut.result.now c.turn.new.labels _ c.args.accumulators c.loop-place.folded.items c.deref_mut-in-loop-place.result.now c.turn.new.folded _
    c.loop-place.invariant (omega arith) (omega arith) c.deref_mut.ensures.value c.deref_mut-in-loop-place.ensures.value
    (c.in_ok-rule.ensures.fault ∙ c.in_default.is)
    (c.in_ok-rule.ensures.labels c.in_default.is)
    c.in_ok-rule.ensures.accumulators
    (c.in_ok-rule.ensures.folded c.in_default.is)
    (written c.loop-place.labels.len c.loop-place.labels.items c.turn.new.labels (omega arith) (omega arith))
    (written c.loop-place.folded.len c.loop-place.folded.items c.turn.new.folded (omega arith) (omega arith))

pub returns-clause-passed : goal.returns-clause-passed
returns-clause-passed c = stands_passed (setting_of c.args.setting.now) (unfolded c.args.accumulators c.args.fields.now) c.args.code.now c.loop-place.place c.loop-place.labels.items c.args.accumulators c.loop-place.folded.items c.loop-place.invariant (omega arith)
