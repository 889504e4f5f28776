use Rattle.wsm_semantics.proofs.KeyLaw as key_law
use Rattle.wsm_semantics.proofs.KeyNumbers.{numbers_add_up}
use Rattle.wsm_semantics.proofs.KeyRecords.{same_by_records}
use Rattle.wsm_semantics.proofs.KeyRelations.{parts_add_up}
use Rattle.wsm_semantics.proofs.KeyRows.{rows_by_key}
use Rattle.wsm_machine.specs.Meaning.{query_of}
use Rattle.wsm_engine.proofs.Ignoring.{turns_ignored}
use Rattle.wsm_engine.proofs.laws.by_key.Goals as goal

pub returns-clause-part : goal.returns-clause-part
returns-clause-part c p = key_law.by_key (query_of p)

pub returns-clause-rows : goal.returns-clause-rows
returns-clause-rows c p = rows_by_key (query_of p) (turns_ignored p)

pub returns-clause-relation : goal.returns-clause-relation
returns-clause-relation c p = parts_add_up (query_of p) (turns_ignored p)

pub returns-clause-numbers : goal.returns-clause-numbers
returns-clause-numbers c p = numbers_add_up (query_of p)

pub returns-clause-records : goal.returns-clause-records
returns-clause-records c p = same_by_records (query_of p)
