use Rattle.std.proofs.Common.{rules, ◌++◌, List, ℕ, [], length, subst}
use Rattle.wsm_saved.specs.Numbers.{number_text}
use Rattle.wsm_saved.proofs.Listing.{WroteSome, WroteSome-none}
use Rattle.wsm_saved_turns.specs.Turns.{RowFits, row_text}
use Rattle.wsm_saved_turns.proofs.Writing.{wrote_fits, wrote_list, wrote_more}
use Rattle.wsm_saved_turns.proofs.clocks.save_rows.Goals as goal

pub loop-row-init : goal.loop-row-init
loop-row-init c =
    let now = c.save_number.new.out.items in
    subst (λ (t : List ℕ). WroteSome row_text RowFits t now []) c.in_ok-save_number.ensures (WroteSome-none row_text RowFits now)

pub loop-row-preserved : goal.loop-row-preserved
loop-row-preserved c =
    let xs = c.args.rows.now in
    wrote_more row_text RowFits (c.args.out.now.items ++ number_text (length xs)) c.loop-row.out.items c.save_row.new.out.items xs c.loop-row.row-index
    c.row-item.result c.row-item.result c.loop-row-test.true c.row-item.is c.loop-row.invariant c.in_ok-save_row.ensures.text c.in_ok-save_row.ensures.fits

pub returns-clause-text : goal.returns-clause-text
returns-clause-text c = wrote_list row_text RowFits c.args.out.now.items c.loop-row.out.items c.args.rows.now c.loop-row.row-index c.loop-row-test.false c.loop-row.invariant

pub returns-clause-fits : goal.returns-clause-fits
returns-clause-fits c = wrote_fits row_text RowFits c.args.out.now.items c.loop-row.out.items c.args.rows.now c.loop-row.row-index c.loop-row-test.false c.loop-row.invariant (search rules)
