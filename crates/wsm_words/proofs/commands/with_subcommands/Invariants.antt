use Rattle.std.proofs.Common.{◌≡◌, map, take}
use Rattle.clap.specs.Words.{app_of}
use Rattle.wsm_words.specs.Words.{shape_by, with_shapes}
use Rattle.wsm_words.proofs.commands.with_subcommands.Given as goal

-- the subcommands so far
abbrev pub invariant-loop-subcommand : goal.invariant-loop-subcommand
invariant-loop-subcommand l = app_of l.command ≡ with_shapes (app_of l.initial.command) (map shape_by (take l.subcommand-index l.subcommands))
