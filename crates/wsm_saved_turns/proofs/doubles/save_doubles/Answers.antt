use Rattle.std.proofs.Common.{◌≡◌, ◌∙◌, ◌++◌, ◌<◌, ◌≤◌, List, ℕ, [], length, get_or, subst, ap, arith, rules, to_z, of_z, w64}
use Rattle.std.proofs.lemmas.Int.{to_z-of_z}
use Rattle.wsm_doubles.specs.Entries.{no_entry}
use Rattle.wsm_saved.specs.Numbers.{number_text}
use Rattle.wsm_saved.proofs.Listing.{WroteSome, WroteSome-none}
use Rattle.wsm_saved_turns.specs.Turns.{EntryFits, entry_text}
use Rattle.wsm_saved_turns.proofs.Writing.{wrote_fits, wrote_list, wrote_more}
use Rattle.wsm_saved_turns.proofs.doubles.save_doubles.Goals as goal

pub loop-number-init : goal.loop-number-init
loop-number-init c =
    let now = c.save_number.new.out.items in
    let is = c.in_ok-save_number.ensures ∙ ap (λ (n : ℕ). c.args.out.now.items ++ number_text n) c.len-count.ensures in
    subst (λ (t : List ℕ). WroteSome entry_text EntryFits t now []) is (WroteSome-none entry_text EntryFits now)

pub loop-number-preserved : goal.loop-number-preserved
loop-number-preserved c =
    let known = c.args.doubles.now.entries in
    let within : c.loop-number.number < length known = omega (arith, c.loop-number-test.true, c.len-count.ensures) in
    let time = to_z w64 (of_z w64 c.time.result) in
    let is : time ≡ c.time.result = to_z-of_z w64 c.time.result (search rules) in
    let entry : (c.identifier.result.now, time) ≡ get_or known c.loop-number.number no_entry = λ i. (c.identifier.ensures i, (is ∙ c.time.ensures) i) in
    wrote_more entry_text EntryFits (c.args.out.now.items ++ number_text (length known)) c.loop-number.out.items c.save_entry.new.out.items known c.loop-number.number
    (c.identifier.result.now, time) no_entry within entry c.loop-number.invariant c.in_ok-save_entry.ensures.text c.in_ok-save_entry.ensures.fits

pub returns-clause-text : goal.returns-clause-text
returns-clause-text c =
    let known = c.args.doubles.now.entries in
    let all : length known ≤ c.loop-number.number = omega (arith, c.loop-number-test.false, c.len-count.ensures) in
    wrote_list entry_text EntryFits c.args.out.now.items c.loop-number.out.items known c.loop-number.number all c.loop-number.invariant

pub returns-clause-fits : goal.returns-clause-fits
returns-clause-fits c =
    let known = c.args.doubles.now.entries in
    let all : length known ≤ c.loop-number.number = omega (arith, c.loop-number-test.false, c.len-count.ensures) in
    wrote_fits entry_text EntryFits c.args.out.now.items c.loop-number.out.items known c.loop-number.number all c.loop-number.invariant (search rules)
