use Rattle.std.proofs.Common.{◌++◌, ◌∷◌, [], ◌<◌, List, take, length, sym, ap, ◌∙◌, append_assoc, arith}
use Rattle.wsm_semantics.specs.declared.out_row.OutRow.{OutRow}
use Rattle.wsm_keep.specs.declared.begins.Begin.{Begin}
use Rattle.wsm_keep.specs.Begins.{begins_of}
use Rattle.wsm_keep.proofs.Begun.{begins_more}
use Rattle.wsm_keep.proofs.begins.add_begins.Goals as goal

pub loop-row-preserved : goal.loop-row-preserved
loop-row-preserved c =
    let rows : List OutRow = c.args.rows.now in
    let n = c.loop-row.row-index in
    let old : List Begin = c.args.begins.now.items in
    let row : OutRow = c.row-item.result in
    let within : n < length rows = omega (arith, c.loop-row-test.true) in
    c.in_ok-add_begin.ensures
    ∙ ap (λ (begins : List Begin). begins ++ begins_of (row ∷ [])) c.loop-row.invariant
    ∙ append_assoc old (begins_of (take n rows)) (begins_of (row ∷ []))
    ∙ ap (λ (begins : List Begin). old ++ begins) (sym (begins_more rows n row within c.row-item.is))
