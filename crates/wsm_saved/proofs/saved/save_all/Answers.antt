use Rattle.std.proofs.Common.{rules, ◌++◌, List, ℕ, [], length, subst}
use Rattle.wsm_saved.specs.Numbers.{number_text}
use Rattle.wsm_saved.proofs.Listing.{WroteSome, WroteSome-fits, WroteSome-list, WroteSome-more, WroteSome-none}
use Rattle.wsm_saved.proofs.saved.save_all.Goals as goal

pub loop-value-init : goal.loop-value-init
loop-value-init g c =
    let now = c.save_number.new.out.items in
    subst (λ (t : List ℕ). WroteSome g.T.Saved.text g.T.Saved.Fits t now []) c.in_ok-save_number.ensures (WroteSome-none g.T.Saved.text g.T.Saved.Fits now)

pub loop-value-preserved : goal.loop-value-preserved
loop-value-preserved g c =
    let values = c.args.values.now in
    WroteSome-more g.T.Saved.shown g.T.Saved.text g.T.Saved.Fits (c.args.out.now.items ++ number_text (length values)) c.loop-value.out.items c.save.new.out.items
    values c.loop-value.value-index c.value-item.result c.loop-value-test.true c.value-item.is c.loop-value.invariant c.in_ok-save.ensures.text c.in_ok-save.ensures.fits

pub returns-clause-text : goal.returns-clause-text
returns-clause-text g c =
    let values = c.args.values.now in
    WroteSome-list g.T.Saved.shown g.T.Saved.text g.T.Saved.Fits c.args.out.now.items c.loop-value.out.items values c.loop-value.value-index c.loop-value-test.false c.loop-value.invariant

pub returns-clause-fits : goal.returns-clause-fits
returns-clause-fits g c =
    let values = c.args.values.now in
    WroteSome-fits g.T.Saved.shown g.T.Saved.text g.T.Saved.Fits c.args.out.now.items c.loop-value.out.items values c.loop-value.value-index c.loop-value-test.false c.loop-value.invariant (search rules)
