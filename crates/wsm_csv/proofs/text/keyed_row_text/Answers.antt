use Rattle.wsm_csv.proofs.KeyedLemmas.{keyed_line}
use Rattle.wsm_csv.proofs.text.keyed_row_text.Goals as goal

pub returns-clause-line : goal.returns-clause-line
returns-clause-line c = keyed_line c.args.schema.now c.args.key.now c.args.row.now
