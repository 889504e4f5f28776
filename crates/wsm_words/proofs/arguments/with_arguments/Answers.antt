use Rattle.std.proofs.Common.{◌∙◌, ap, map, arith}
use Rattle.std.proofs.lemmas.List.{take_all}
use Rattle.clap.specs.Words.{app_of, rule_of}
use Rattle.wsm_words.specs.Words.{rule_by, with_rules}
use Rattle.wsm_words.proofs.Rules.{next_rule, no_rules}
use Rattle.wsm_words.proofs.arguments.with_arguments.Goals as goal

pub loop-argument-init : goal.loop-argument-init
loop-argument-init c = no_rules (app_of c.args.command)

pub loop-argument-preserved : goal.loop-argument-preserved
loop-argument-preserved c =
    next_rule rule_by c.args.arguments.now c.loop-argument.argument-index _ (app_of c.args.command) (app_of c.loop-argument.command)
    (app_of c.in_ok-command.command) (rule_of c.arg_of.result) (omega arith) (c.in_ok-command.ensures.shape c.arg_of.ensures.local) c.arg_of.ensures.rule
    c.loop-argument.invariant

pub returns : goal.returns
returns c =
    c.loop-argument.invariant
    ∙ ap (with_rules (app_of c.args.command)) (ap (map rule_by) (take_all c.loop-argument.argument-index c.args.arguments.now (omega arith)))
