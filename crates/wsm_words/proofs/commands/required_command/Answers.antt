use Rattle.std.proofs.Common.{◌∙◌, ap, true}
use Rattle.clap.specs.Simple.{App, app_of_fields}
use Rattle.clap.specs.declared.builder.command.Command.{Command}
use Rattle.clap.specs.declared.builder.command.Command.TheOpen.{Command-F}
use Rattle.wsm_words.proofs.commands.required_command.Goals as goal

-- one that tells its version, and wants a subcommand
pub returns : goal.returns
returns c =
    let named = ap app_of_fields c.in_ok-wsm.ensures.0 in
    let wanting = ap app_of_fields c.subcommand_required.ensures in
    let telling = ap (λ (f : Command-F Command). app_of_fields (record f { subcommand_required = true })) c.version.ensures in
    let new = ap (λ (a : App). record a { top = record a.top { has_version = true; subcommand_required = true } }) c.command.ensures in
    named ∙ (wanting ∙ (telling ∙ new))
