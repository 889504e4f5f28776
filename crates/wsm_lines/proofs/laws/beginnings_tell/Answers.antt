use Rattle.wsm_lines.proofs.KeptLemmas.{clock_of-all-kept, identifier_of-all-kept, key_text_of-all-kept, said_of-all-kept, said_of-kept}
use Rattle.wsm_lines.proofs.laws.beginnings_tell.Goals as goal

pub returns-clause-all : goal.returns-clause-all
returns-clause-all c = said_of-all-kept

pub returns-clause-line : goal.returns-clause-line
returns-clause-line c = said_of-kept

pub returns-clause-identifiers : goal.returns-clause-identifiers
returns-clause-identifiers c = identifier_of-all-kept

pub returns-clause-clocks : goal.returns-clause-clocks
returns-clause-clocks c = clock_of-all-kept

pub returns-clause-keys : goal.returns-clause-keys
returns-clause-keys c = key_text_of-all-kept
