use Rattle.wsm_semantics.proofs.KeyNumbers.{numbers_add_up}
use Rattle.wsm_semantics.proofs.KeyRelations as relations
use Rattle.wsm_semantics.proofs.laws.parts_add_up.Goals as goal

pub returns-clause-parts : goal.returns-clause-parts
returns-clause-parts c = relations.parts_add_up

pub returns-clause-streams : goal.returns-clause-streams
returns-clause-streams c = relations.streams_write

pub returns-clause-two : goal.returns-clause-two
returns-clause-two c = relations.two_parts

pub returns-clause-numbers : goal.returns-clause-numbers
returns-clause-numbers c = numbers_add_up
