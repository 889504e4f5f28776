use Rattle.wsm_compiler.proofs.Lawful.{is_lawful}
use Rattle.wsm_compiler.proofs.Texts.{parsed_is_spelt}
use Rattle.wsm_compiler.proofs.laws.is_lawful.Goals as goal

pub returns-clause-program : goal.returns-clause-program
returns-clause-program c = is_lawful

pub returns-clause-text : goal.returns-clause-text
returns-clause-text c = parsed_is_spelt
