use Rattle.std.proofs.Common.{All, sym, subst}
use Rattle.std.proofs.lemmas.Result.{err_from_is_err_and}
use Rattle.std.proofs.lemmas.List.{take_all}
use Rattle.std.proofs.lemmas.List.Elements.{All-more, All-nil}
use Rattle.wsm_live_loop.specs.Sinks.{IsServedBy}
use Rattle.wsm_live_loop.proofs.SinkLemmas.{all_looked, none_yet, one_more}
use Rattle.wsm_live_loop.proofs.sinks.least_taken.Goals as goal

pub loop-taken-init : goal.loop-taken-init
loop-taken-init c = record {
  served = All-nil (IsServedBy c.args.handed);
  least = none_yet c.args.all.now;
}

pub loop-taken-preserved : goal.loop-taken-preserved
loop-taken-preserved c =
    let x = c.taken-item.result in
    record {
      served = All-more (IsServedBy c.args.handed) c.args.all.now c.loop-taken.taken-index x c.loop-taken-test.true c.loop-taken.invariant.served
          (subst (IsServedBy c.args.handed) c.taken-item.is c.in_ok-count.ensures.served);
      least = one_more c.args.all.now c.loop-taken.taken-index x c.in_ok-count.count c.loop-taken-test.true c.taken-item.is c.in_ok-count.ensures.count c.loop-taken.least c.less_of.result
          c.loop-taken.invariant.least c.less_of.ensures;
    }

pub returns-clause-served : goal.returns-clause-served
returns-clause-served c = subst (All (IsServedBy c.args.handed)) (take_all c.loop-taken.taken-index c.args.all.now c.loop-taken-test.false) c.loop-taken.invariant.served

pub returns-clause-least : goal.returns-clause-least
returns-clause-least c = all_looked c.loop-taken.least c.args.all.now c.loop-taken.taken-index c.loop-taken-test.false c.loop-taken.invariant.least

pub returns-in_err-count-clause-refused : goal.returns-in_err-count-clause-refused
returns-in_err-count-clause-refused c =
    let e = err_from_is_err_and c.from_residual.result c.from_residual.ensures.1 in
    rw (e.1, e.2) (c.loop-taken.taken-index, c.taken-item.result, c.loop-taken-test.true, sym c.taken-item.is, c.in_err-count.ensures.refused)
