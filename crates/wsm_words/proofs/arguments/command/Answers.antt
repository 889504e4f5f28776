use Rattle.std.proofs.Common.{◌∙◌, ap}
use Rattle.clap.specs.Simple.{app_of_fields}
use Rattle.wsm_words.proofs.arguments.command.Goals as goal

-- the texts of the help are no part of what is read of words
pub returns : goal.returns
returns c = ap app_of_fields c.after_help.ensures ∙ (ap app_of_fields c.about.ensures ∙ c.new.ensures.app)
