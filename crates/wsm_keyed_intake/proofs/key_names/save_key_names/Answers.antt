use Rattle.std.proofs.Common.{◌∙◌, ◌++◌, ◌<◌, ◌≤◌, List, ℕ, [], length, get_or, subst, ap, refl, arith, rules}
use Rattle.wsm_saved.specs.Numbers.{number_text}
use Rattle.wsm_saved.specs.Lists.{BytesFit, bytes_text}
use Rattle.wsm_saved.proofs.Listing.{WroteSome, WroteSome-none}
use Rattle.wsm_saved_turns.proofs.Writing.{wrote_fits, wrote_list, wrote_more}
use Rattle.wsm_keyed_intake.proofs.key_names.save_key_names.Goals as goal

pub loop-number-init : goal.loop-number-init
loop-number-init c =
    let now = c.save_number.new.out.items in
    let is = c.in_ok-save_number.ensures ∙ ap (λ (n : ℕ). c.args.out.now.items ++ number_text n) c.len-count.ensures.len in
    subst (λ (t : List ℕ). WroteSome bytes_text BytesFit t now []) is (WroteSome-none bytes_text BytesFit now)

pub loop-number-preserved : goal.loop-number-preserved
loop-number-preserved c =
    let known = c.args.names.now in
    let within : c.loop-number.number < length known = omega (arith, c.loop-number-test.true, c.len-count.ensures.len) in
    wrote_more bytes_text BytesFit (c.args.out.now.items ++ number_text (length known)) c.loop-number.out.items c.save_bytes.new.out.items known c.loop-number.number
    c.text_of.result.now [] within c.text_of.ensures c.loop-number.invariant c.in_ok-save_bytes.ensures.text c.in_ok-save_bytes.ensures.fits

pub returns-clause-text : goal.returns-clause-text
returns-clause-text c =
    let known = c.args.names.now in
    let all : length known ≤ c.loop-number.number = omega (arith, c.loop-number-test.false, c.len-count.ensures.len) in
    wrote_list bytes_text BytesFit c.args.out.now.items c.loop-number.out.items known c.loop-number.number all c.loop-number.invariant

pub returns-clause-fits : goal.returns-clause-fits
returns-clause-fits c =
    let known = c.args.names.now in
    let all : length known ≤ c.loop-number.number = omega (arith, c.loop-number-test.false, c.len-count.ensures.len) in
    let few = c.len-count.ensures.most in
    let len = c.len-count.ensures.len in
    wrote_fits bytes_text BytesFit c.args.out.now.items c.loop-number.out.items known c.loop-number.number all c.loop-number.invariant (omega (arith, few, len))
