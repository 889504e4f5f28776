use Rattle.std.proofs.Common.{rules, ◌++◌, List, ℕ, [], None, get_or, length, refl, subst}
use Rattle.wsm_saved.specs.Numbers.{number_text}
use Rattle.wsm_saved.proofs.Listing.{WroteSome, WroteSome-none}
use Rattle.wsm_saved_turns.specs.Turns.{SaidFits, said_text}
use Rattle.wsm_saved_turns.proofs.Writing.{wrote_fits, wrote_list, wrote_more}
use Rattle.wsm_saved_turns.proofs.clocks.save_stamps.Goals as goal

pub loop-said-init : goal.loop-said-init
loop-said-init c =
    let now = c.save_number.new.out.items in
    subst (λ (t : List ℕ). WroteSome said_text SaidFits t now []) c.in_ok-save_number.ensures (WroteSome-none said_text SaidFits now)

pub loop-said-preserved : goal.loop-said-preserved
loop-said-preserved c =
    let xs = c.args.stamps.now in
    wrote_more said_text SaidFits (c.args.out.now.items ++ number_text (length xs)) c.loop-said.out.items c.save_said.new.out.items xs c.loop-said.said-index
    (get_or xs c.loop-said.said-index None) None c.loop-said-test.true refl c.loop-said.invariant c.in_ok-save_said.ensures.text c.in_ok-save_said.ensures.fits

pub returns-clause-text : goal.returns-clause-text
returns-clause-text c = wrote_list said_text SaidFits c.args.out.now.items c.loop-said.out.items c.args.stamps.now c.loop-said.said-index c.loop-said-test.false c.loop-said.invariant

pub returns-clause-fits : goal.returns-clause-fits
returns-clause-fits c = wrote_fits said_text SaidFits c.args.out.now.items c.loop-said.out.items c.args.stamps.now c.loop-said.said-index c.loop-said-test.false c.loop-said.invariant (search rules)
