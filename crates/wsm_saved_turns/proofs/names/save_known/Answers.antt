use Rattle.std.proofs.Common.{◌∙◌, ◌++◌, ◌<◌, ◌≤◌, List, ℕ, [], length, get_or, subst, ap, refl, arith, rules}
use Rattle.wsm_saved.specs.Numbers.{number_text}
use Rattle.wsm_saved.specs.Lists.{BytesFit, bytes_text}
use Rattle.wsm_saved.proofs.Listing.{WroteSome, WroteSome-none}
use Rattle.wsm_saved_turns.proofs.Writing.{wrote_fits, wrote_list, wrote_more}
use Rattle.wsm_saved_turns.proofs.names.save_known.Goals as goal

pub loop-number-init : goal.loop-number-init
loop-number-init c =
    let now = c.save_number.new.out.items in
    let is = c.in_ok-save_number.ensures ∙ ap (λ (n : ℕ). c.args.out.now.items ++ number_text n) c.len-count.ensures in
    subst (λ (t : List ℕ). WroteSome bytes_text BytesFit t now []) is (WroteSome-none bytes_text BytesFit now)

pub loop-number-preserved : goal.loop-number-preserved
loop-number-preserved c =
    let known = c.args.names.now.names in
    let within : c.loop-number.number < length known = omega (arith, c.loop-number-test.true, c.len-count.ensures) in
    wrote_more bytes_text BytesFit (c.args.out.now.items ++ number_text (length known)) c.loop-number.out.items c.save_name.new.out.items known c.loop-number.number
    (get_or known c.loop-number.number []) [] within refl c.loop-number.invariant c.in_ok-save_name.ensures.text c.in_ok-save_name.ensures.fits

pub returns-clause-text : goal.returns-clause-text
returns-clause-text c =
    let known = c.args.names.now.names in
    let all : length known ≤ c.loop-number.number = omega (arith, c.loop-number-test.false, c.len-count.ensures) in
    wrote_list bytes_text BytesFit c.args.out.now.items c.loop-number.out.items known c.loop-number.number all c.loop-number.invariant

pub returns-clause-fits : goal.returns-clause-fits
returns-clause-fits c =
    let known = c.args.names.now.names in
    let all : length known ≤ c.loop-number.number = omega (arith, c.loop-number-test.false, c.len-count.ensures) in
    wrote_fits bytes_text BytesFit c.args.out.now.items c.loop-number.out.items known c.loop-number.number all c.loop-number.invariant (search rules)
