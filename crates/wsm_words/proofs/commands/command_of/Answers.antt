use Rattle.std.proofs.Common.{◌∙◌, ap, map}
use Rattle.clap.specs.Words.{App}
use Rattle.wsm_words.specs.Words.{rule_by, with_rules}
use Rattle.wsm_words.proofs.commands.command_of.Goals as goal

pub returns : goal.returns
returns c =
    ap (λ (a : App). a.top)
    (c.in_ok-whole.ensures ∙ ap (λ (a : App). with_rules a (map rule_by c.usage_of-usage.result.arguments.now)) c.command-named.ensures)
    ∙ c.usage_of-usage.ensures
