use Rattle.std.proofs.Common.{sym, ◌∙◌, ap, ◌+◌, ◌++◌, length, map, drop, arith}
use Rattle.wsm_check.specs.Seen.{seen_folding}
use Rattle.wsm_compiler.specs.TermCode.{foldings_code, foldings_size}
use Rattle.wsm_compiler.proofs.CodeParts.{seen_rest, folded}
use Rattle.wsm_compiler.proofs.sections.update.Goals as goal

pub loop-number-preserved : goal.loop-number-preserved
loop-number-preserved c =
    let i = c.loop-number.number in
    let code = c.loop-number.code.items in
    let rest = map seen_folding (drop (i + 1) c.args.foldings.now) in
    let e = seen_rest seen_folding c.args.foldings.now i c.index-foldings-number.result (omega arith) c.index-foldings-number.is in
    let p = folded code c.add.new.code.items c.push.new.code.items i (seen_folding c.index-foldings-number.result) rest c.in_ok-add.ensures c.in_ok-push.ensures in
    record {
      goes_on = p.1 ∙ ap (λ fs. code ++ foldings_code (length code) i fs) (sym e) ∙ c.loop-number.invariant.goes_on;
      room = omega (arith, p.0, c.loop-number.invariant.room, ap foldings_size e);
    }
