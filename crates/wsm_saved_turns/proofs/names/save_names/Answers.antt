use Rattle.std.proofs.Common.{◌≡◌, ◌∙◌, ◌++◌, List, ℕ, OnOk, append-nil, ap, arith, subst, sym}
use Rattle.wsm_saved_turns.specs.Turns.{NamesFit}
use Rattle.wsm_saved_turns.proofs.Named.{named_list, named_text, none_list, none_text}
use Rattle.wsm_saved_turns.proofs.names.save_names.Goals as goal

pub returns-in-Some-clause-text : goal.returns-in-Some-clause-text
returns-in-Some-clause-text c = λ named list knows.
    subst (λ (t : List ℕ). OnOk c.save_known.result (c.save_known.new.out.items ≡ c.args.out.now.items ++ t)) (named_text named c.in-Some.names list (rw c.in-Some.is at knows)) c.save_known.ensures.text

pub returns-in-Some-clause-fits : goal.returns-in-Some-clause-fits
returns-in-Some-clause-fits c = λ named list knows.
    subst (λ (ns : List (List ℕ)). OnOk c.save_known.result (NamesFit ns)) (named_list named c.in-Some.names list (rw c.in-Some.is at knows)) c.save_known.ensures.fits

pub returns-in-None-clause-text : goal.returns-in-None-clause-text
returns-in-None-clause-text c = λ named list knows.
    sym (ap (λ (t : List ℕ). c.args.out.now.items ++ t) (none_text named list (rw c.in-None.is at knows)) ∙ append-nil c.args.out.now.items)

pub returns-in-None-clause-fits : goal.returns-in-None-clause-fits
returns-in-None-clause-fits c = λ named list knows. subst NamesFit (sym (none_list named list (rw c.in-None.is at knows))) (omega arith, tt)
