use Rattle.std.proofs.Common.{rules, ◌≡◌, List, None, Option, ap, length, arith, replicate, sym, ◌∙◌}
use Rattle.std.proofs.lemmas.List.{length-replicate}
use Rattle.wsm_watermarks.specs.declared.table.Said.{Said}
use Rattle.wsm_watermarks.specs.Table.{counted}
use Rattle.wsm_watermarks.proofs.Tables.{counted_none}
use Rattle.wsm_watermarks.proofs.table.Table.open.Goals as goal

pub invariant_of-result : goal.invariant_of-result
invariant_of-result c =
    let items : c.in_ok-vec.field-0.items ≡ replicate c.args.clocks None = search rules in
    let none = counted_none 0 c.args.need c.args.clocks (length c.in_ok-vec.field-0.items) in
    (sym (ap (λ (os : List (Option Said)). counted 0 c.args.need os (length c.in_ok-vec.field-0.items)) items ∙ none), omega arith, omega (arith, ap length items, length-replicate {A = Option Said} c.args.clocks None, c.requires))
