use Rattle.std.proofs.Common.{◌≡◌, ◌<◌, length, take, rules, sym, arith}
use Rattle.std.proofs.lemmas.List.{length-take-le}
use Rattle.wsm_row_watermarks.proofs.pieces.end_of_lines.Goals as goal

pub slice_bounds-memrchr-end : goal.slice_bounds-memrchr-end
slice_bounds-memrchr-end c = sym (length-take-le 4096 c.args.rows.now (omega (arith, c.if-rows-le-WHOLE.false)))

pub overflow_add-result : goal.overflow_add-result
overflow_add-result c =
    let whole : length (take 4096 c.args.rows.now) ≡ 4096 = length-take-le 4096 c.args.rows.now (omega (arith, c.if-rows-le-WHOLE.false)) in
    let within : c.in-Some.last < 4096 = omega (arith, whole, c.in-Some.ensures.0.high) in
    search rules

pub returns-in-Some-clause-within : goal.returns-in-Some-clause-within
returns-in-Some-clause-within c =
    let whole : length (take 4096 c.args.rows.now) ≡ 4096 = length-take-le 4096 c.args.rows.now (omega (arith, c.if-rows-le-WHOLE.false)) in
    omega (arith, whole, c.in-Some.ensures.0.high, c.if-rows-le-WHOLE.false)
