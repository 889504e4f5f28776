use Rattle.wsm_csv.proofs.RowsLemmas.{Follows-read}
use Rattle.wsm_csv.proofs.rows.Rows.advance.Goals as goal

-- a row was read, or the end of all
pub returns-in-Ok-clause-advances : goal.returns-in-Ok-clause-advances
returns-in-Ok-clause-advances g c known rows follows =
    let now = c.in-Ok.ensures in
    Follows-read g.R.Read.remaining known rows c.args.self.now _ c.in-Ok.found follows (now.reads follows.plain follows.ready) (now.ready follows.plain) now.flexible
