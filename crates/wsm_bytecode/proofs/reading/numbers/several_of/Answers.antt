use Rattle.std.proofs.Common.{Ok, Err, of_calls}
use Rattle.std.proofs.lemmas.Result.{err_from_is_err_and}
use Rattle.wsm_bytecode.specs.Steps.{several}
use Rattle.wsm_bytecode.proofs.Loop.{goes_on, ends}
use Rattle.wsm_bytecode.proofs.reading.numbers.several_of.Goals as goal

pub returns-in_err-value : goal.returns-in_err-value
returns-in_err-value g c = λ one gives.
    let p = err_from_is_err_and c.from_residual.result c.from_residual.ensures.1 in
    rw (p.1, p.2) (ends (λ kept x. kept) (λ _. one) c.loop.values.items c.args.count c.loop.counter tt c.loop.rest.now (several one c.args.count c.args.bytes.now) c.loop-test.true (c.loop.invariant one gives) c.in_err-value.field-0.0
    (gives c.loop.rest (Err c.in_err-value.field-0.0) (search of_calls)))

pub loop-preserved : goal.loop-preserved
loop-preserved g c = λ one gives.
    rw c.in_ok-push.ensures.items (goes_on (λ kept x. kept) (λ _. one) c.loop.values.items c.args.count c.loop.counter tt c.loop.rest.now (several one c.args.count c.args.bytes.now) c.loop-test.true (c.loop.invariant one gives) c.in_ok-value.value c.in_ok-value.after.now
    (gives c.loop.rest (Ok (c.in_ok-value.value, c.in_ok-value.after)) (search of_calls)))
