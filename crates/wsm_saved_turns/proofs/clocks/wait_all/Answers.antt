use Rattle.std.proofs.Common.{◌≡◌, ◌∙◌, List, ap, arith, get_or, map, subst, sym, take}
use Rattle.std.proofs.lemmas.List.{get_or-map, length-map, take_all}
use Rattle.wsm_watermarks.specs.declared.held.Timed.{Timed}
use Rattle.wsm_turns.specs.Numbered.{Numbered}
use Rattle.wsm_turns.specs.Waits.{Hears}
use Rattle.wsm_saved_turns.specs.Turns.{row_of}
use Rattle.wsm_saved_turns.proofs.Queued.{next_waits}
use Rattle.wsm_saved_turns.proofs.clocks.wait_all.Goals as goal

pub loop-row-init : goal.loop-row-init
loop-row-init c = λ k count told stamps by_time few hears. hears

pub loop-row-preserved : goal.loop-row-preserved
loop-row-preserved c = λ k count told stamps by_time few hears.
    let rows = c.args.rows.now in
    let at = c.loop-row.row-index in
    let row = c.row-item.result in
    let shown : List (Timed Numbered) = map row_of rows in
    let before = c.loop-row.invariant k count told stamps by_time few hears in
    let is : row_of row ≡ get_or shown at (row_of row) = ap row_of c.row-item.is ∙ sym (get_or-map row_of rows at row (row_of row) c.loop-row-test.true) in
    let more = next_waits shown at k.room (row_of row) (row_of row) by_time (omega (arith, few, length-map rows row_of)) (omega (arith, c.loop-row-test.true, length-map rows row_of)) is in
    subst (λ (waits : List (Timed Numbered)). Hears k count c.wait.new.self stamps told waits) more (c.in_ok-wait.ensures k count told stamps (take at shown) before)

pub returns : goal.returns
returns c = λ k count told stamps by_time few hears.
    let rows = c.args.rows.now in
    let shown : List (Timed Numbered) = map row_of rows in
    subst (λ (waits : List (Timed Numbered)). Hears k count c.loop-row.waiting stamps told waits) (take_all c.loop-row.row-index shown (omega (arith, c.loop-row-test.false, length-map rows row_of)))
    (c.loop-row.invariant k count told stamps by_time few hears)
