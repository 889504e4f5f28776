use Rattle.wsm_semantics.proofs.KeyLaw as key_law
use Rattle.wsm_semantics.proofs.KeyRows.{rows_by_key}
use Rattle.wsm_semantics.proofs.KeyRecords.{same_by_records}
use Rattle.wsm_semantics.proofs.laws.by_key.Goals as goal

pub returns-clause-parts : goal.returns-clause-parts
returns-clause-parts c = key_law.by_key

pub returns-clause-rows : goal.returns-clause-rows
returns-clause-rows c = rows_by_key

pub returns-clause-records : goal.returns-clause-records
returns-clause-records c = same_by_records
