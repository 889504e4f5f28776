use Rattle.std.proofs.Common.{◌≡◌, map, take}
use Rattle.clap.specs.Words.{app_of}
use Rattle.wsm_words.specs.Words.{rule_by, with_rules}
use Rattle.wsm_words.proofs.arguments.with_arguments.Given as goal

-- the arguments so far
abbrev pub invariant-loop-argument : goal.invariant-loop-argument
invariant-loop-argument l = app_of l.command ≡ with_rules (app_of l.initial.command) (map rule_by (take l.argument-index l.arguments))
