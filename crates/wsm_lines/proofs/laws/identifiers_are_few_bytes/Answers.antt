use Rattle.wsm_lines.proofs.IdentifierLemmas.{identifier_of-few, identifier_of-some}
use Rattle.wsm_lines.proofs.laws.identifiers_are_few_bytes.Goals as goal

pub returns-clause-some : goal.returns-clause-some
returns-clause-some c = identifier_of-some

pub returns-clause-few : goal.returns-clause-few
returns-clause-few c = identifier_of-few
