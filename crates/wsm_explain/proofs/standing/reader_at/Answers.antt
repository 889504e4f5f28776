use Rattle.std.proofs.Common.{◌∙◌, ap, sym, arith}
use Rattle.wsm_explain.specs.Standing.{tokens_at}
use Rattle.wsm_explain.proofs.Places.{front_counts, tokens_on, tokens_stop}
use Rattle.wsm_explain.proofs.standing.reader_at.Goals as goal

pub loop-position-smaller : goal.loop-position-smaller
loop-position-smaller c =
    let some = front_counts c.args.text.now c.args.position c.loop-position.reader (sym c.is_in_front.ensures ∙ c.loop-position-test.true) in
    omega (arith, some, c.advance.ensures.onward)

pub loop-position-preserved : goal.loop-position-preserved
loop-position-preserved c =
    ap (tokens_at c.args.text.now c.args.position) c.advance.ensures.rest
    ∙ tokens_on c.args.text.now c.args.position c.loop-position.reader (sym c.is_in_front.ensures ∙ c.loop-position-test.true)
    ∙ c.loop-position.invariant

pub returns : goal.returns
returns c = sym (tokens_stop c.args.text.now c.args.position c.loop-position.reader (sym c.is_in_front.ensures ∙ c.loop-position-test.false)) ∙ c.loop-position.invariant
