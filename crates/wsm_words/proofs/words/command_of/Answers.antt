use Rattle.std.proofs.lemmas.Result.{err_from_is_err_and}
use Rattle.std.proofs.Common.{◌≡◌, ◌∙◌, subst, sym, ap, refl, true, map, List, Option}
use Rattle.clap.specs.Words.{App, HasKind, Row, Text, fault_of, is_simple, is_simple_and_free, subcommand_of, takes}
use Rattle.clap.proofs.OnLiterals.{clap_on_literals}
use Rattle.wsm_words.specs.Words.{the_app, file_rule, flag_rule, needed_rule, option_rule, other_rule, rows_rule, IsJobOf}
use Rattle.wsm_words.proofs.Faults.{told_memory, told_fault}
use Rattle.wsm_words.proofs.words.command_of.Goals as goal

simple : is_simple the_app ≡ true
unfolding clap_on_literals file_rule flag_rule needed_rule option_rule other_rule rows_rule
simple = refl

free : is_simple_and_free the_app ≡ true
unfolding clap_on_literals file_rule flag_rule needed_rule option_rule other_rule rows_rule
free = refl

pub returns-clause-job : goal.returns-clause-job
returns-clause-job c =
    let wsm_is = c.in_ok-wsm_command.ensures in
    let words : List Text = map (λ s. s.now) c.args.words.now in
    let entered = (c.in_ok-matches.ensures.matches (ap is_simple wsm_is ∙ simple)).1 ∙ ap (λ (a : App). subcommand_of a words) wsm_is in
    subst (λ (o : Option (Text × List Row)). IsJobOf o c.in_ok-job.job) entered c.in_ok-job.ensures

-- words that are taken are refused for want of memory alone
pub returns-in_err-matches-clause-refused : goal.returns-in_err-matches-clause-refused
returns-in_err-matches-clause-refused c =
    let p = err_from_is_err_and c.from_residual-in_err-matches.result c.from_residual-in_err-matches.ensures.1 in
    rw p.1 (λ (taken : takes the_app (map (λ s. s.now) c.args.words.now) ≡ true). told_memory c.in_err-matches.field-0.0 _ p.2 (c.in_err-matches.ensures.passes (ap (λ a. takes a (map (λ s. s.now) c.args.words.now)) c.in_ok-wsm_command.ensures ∙ taken)))

pub returns-in_err-matches-clause-faults : goal.returns-in_err-matches-clause-faults
returns-in_err-matches-clause-faults c =
    let p = err_from_is_err_and c.from_residual-in_err-matches.result c.from_residual-in_err-matches.ensures.1 in
    let wsm_is = c.in_ok-wsm_command.ensures in
    let words : List Text = map (λ s. s.now) c.args.words.now in
    let error = c.in_err-matches.field-0.0 in
    let has = subst (λ (a : App). HasKind (fault_of a words) error) wsm_is (c.in_err-matches.ensures.kinds (ap is_simple_and_free wsm_is ∙ free)) in
    rw p.1 (told_fault (fault_of the_app words) error _ p.2 has)

pub returns-clause-faults : goal.returns-clause-faults
returns-clause-faults c =
    let wsm_is = c.in_ok-wsm_command.ensures in
    let words : List Text = map (λ s. s.now) c.args.words.now in
    ap (λ (a : App). fault_of a words) (sym wsm_is) ∙ c.in_ok-matches.ensures.kinds (ap is_simple_and_free wsm_is ∙ free)
