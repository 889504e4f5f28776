use Rattle.std.proofs.Common.{sym, arith}
use Rattle.std.proofs.lemmas.Result.{err_from_is_err_and}
use Rattle.wsm_query.specs.Steps.{made}
use Rattle.wsm_query.proofs.Chains.{chain_ended, full_stops, operand_stops, chain_goes_on}
use Rattle.wsm_query.proofs.parse_expr.+expr.Goals as goal

pub chain-returns-in_err-turns : goal.chain-returns-in_err-turns
chain-returns-in_err-turns t c =
    let p = err_from_is_err_and c.from_residual-in_err-turns.result c.from_residual-in_err-turns.ensures.1 in
    rw (p.1, p.2) (record {
      gives = full_stops c.loop-link.invariant.goes_on (made c.in-Some.link) (sym c.in-Some.ensures) _ c.in_err-turns.ensures.reads.gives;
      onward = omega (arith, c.in_err-turns.ensures.reads.onward, c.loop-link.invariant.onward);
    })

pub chain-returns-in_err-right : goal.chain-returns-in_err-right
chain-returns-in_err-right t c =
    let p = err_from_is_err_and c.from_residual-in_err-right.result c.from_residual-in_err-right.ensures.1 in
    rw (p.1, p.2) (record {
      gives = operand_stops c.loop-link.invariant.goes_on (made c.in-Some.link) (sym c.in-Some.ensures) _ _ _ c.in_ok-turns.ensures.reads.gives c.in_err-right.ensures.gives;
      onward = omega (arith, c.in_ok-turns.ensures.reads.onward, c.in_err-right.ensures.onward, c.loop-link.invariant.onward);
    })

pub chain-loop-link-preserved : goal.chain-loop-link-preserved
chain-loop-link-preserved t c = record {
  goes_on = chain_goes_on c.loop-link.invariant.goes_on (made c.in-Some.link) (sym c.in-Some.ensures) _ _ _ _ _ c.in_ok-turns.ensures.reads.gives c.in_ok-right.ensures.gives c.in_ok-left-2.ensures;
  onward = omega (arith, c.in_ok-turns.ensures.reads.onward, c.in_ok-right.ensures.onward, c.loop-link.invariant.onward);
}

pub chain-returns : goal.chain-returns
chain-returns t c = record { gives = chain_ended c.loop-link.invariant.goes_on (sym c.in_default.ensures); onward = c.loop-link.invariant.onward }
