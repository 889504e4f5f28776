use Rattle.std.proofs.Common.{sym, ◌∙◌, ap, ◌+◌, ◌++◌, length, map, drop, arith}
use Rattle.std.specs.Prelude.{option_map}
use Rattle.wsm_check.specs.Seen.{seen_term}
use Rattle.wsm_compiler.specs.TermCode.{firing_code, firing_size}
use Rattle.wsm_compiler.proofs.CodeParts.{seen_rest, computed}
use Rattle.wsm_compiler.proofs.sections.fire.Goals as goal

pub loop-column-preserved : goal.loop-column-preserved
loop-column-preserved c =
    let code = c.loop-column.code.items in
    let having = option_map seen_term c.args.having.now in
    let rest = map seen_term (drop (c.loop-column.column-index + 1) c.args.columns.now) in
    let e = seen_rest seen_term c.args.columns.now c.loop-column.column-index c.column-item.result (omega arith) c.column-item.is in
    let p = computed code c.add.new.code.items (seen_term c.column-item.result) (λ k. firing_code k having rest) c.in_ok-add.ensures in
    record {
      goes_on = p.1 ∙ ap (λ cs. code ++ firing_code (length code) having cs) (sym e) ∙ c.loop-column.invariant.goes_on;
      room = omega (arith, p.0, c.loop-column.invariant.room, ap (firing_size having) e);
    }
