use Rattle.std.proofs.Common.{◌++◌, ◌∷◌, [], ℕ, List, reverse, subst}
use Rattle.std.proofs.lemmas.Result.{err_from_is_err_and}
use Rattle.wsm_csv.proofs.Written.{Appends-start, Keeps-Appends, TakesPart-all}
use Rattle.wsm_log.specs.Lines.{line_of}
use Rattle.wsm_log_rows.specs.Rows.{Rows, rows_of}
use Rattle.wsm_log_rows.proofs.Reading.{AreFirst-none, Follows-first, HasWritten-next, RowsPart-next}
use Rattle.wsm_log_rows.proofs.rows.write_rows.Goals as goal

pub returns-in_err-lines-clause-broken : goal.returns-in_err-lines-clause-broken
returns-in_err-lines-clause-broken g c =
    let e = err_from_is_err_and c.from_residual.result c.from_residual.ensures.1 in
    rw (e.1, e.2) ([], record { first = AreFirst-none c.args.source.longest (g.R.Read.remaining c.args.reader); text = Appends-start (g.D.Device.taken c.args.out.now) })

pub loop-rows-init : goal.loop-rows-init
loop-rows-init g c = record {
  works = c.requires;
  rows = ([], c.in_ok-lines.ensures, record { reads = c.new-rows.ensures; text = Appends-start (g.D.Device.taken c.args.out.now) });
}

pub returns-in_err-advance-clause-broken : goal.returns-in_err-advance-clause-broken
returns-in_err-advance-clause-broken g c =
    let e = err_from_is_err_and c.from_residual-in_err-advance.result c.from_residual-in_err-advance.ensures.1 in
    let (read, follows, has) = c.loop-rows.invariant.rows in
    let known = g.R.Read.remaining c.args.reader in
    rw (e.1, e.2) (read, record { first = c.in_err-advance.ensures.advances c.args.source.longest known read follows; text = has.text })

pub returns-in_err-take-clause-broken : goal.returns-in_err-take-clause-broken
returns-in_err-take-clause-broken g c =
    let e = err_from_is_err_and c.from_residual-in_err-take.result c.from_residual-in_err-take.ensures.1 in
    let (read, follows, has) = c.loop-rows.invariant.rows in
    rw (e.1, e.2) (read, record { first = Follows-first c.args.source.longest g.R.Read.remaining (g.R.Read.remaining c.args.reader) read c.loop-rows.lines follows; text = has.text })

pub loop-rows-preserved : goal.loop-rows-preserved
loop-rows-preserved g c =
    let s = c.args.source in
    let d = c.args.schema.now in
    let (read, follows, has) = c.loop-rows.invariant.rows in
    let line = line_of c.advance.new.self in
    let known = g.R.Read.remaining c.args.reader in
    let follows' = rw c.if-branch.true at (c.in_ok-advance.ensures.advances s.longest known read follows) in
    let rows = subst (Rows s d c.take.new.self (reverse read)) c.line.ensures.value (c.in_ok-take.ensures s (reverse read) has.reads) in
    let old = g.D.Device.taken c.args.out.now in
    let now = g.D.Device.taken c.loop-rows.out in
    let new = g.D.Device.taken c.write.new.out in
    record {
      works = c.in_ok-write.ensures.works;
      rows = (read ++ line ∷ [], follows', HasWritten-next s d read line c.loop-rows.rows c.take.new.self old now new has rows c.in_ok-write.ensures.all);
    }

pub returns-in_err-write-clause-broken : goal.returns-in_err-write-clause-broken
returns-in_err-write-clause-broken g c =
    let e = err_from_is_err_and c.from_residual-in_err-write.result c.from_residual-in_err-write.ensures.1 in
    let s = c.args.source in
    let d = c.args.schema.now in
    let (read, follows, has) = c.loop-rows.invariant.rows in
    let line = line_of c.advance.new.self in
    let known = g.R.Read.remaining c.args.reader in
    let follows' = rw c.if-branch.true at (c.in_ok-advance.ensures.advances s.longest known read follows) in
    let rows = subst (Rows s d c.take.new.self (reverse read)) c.line.ensures.value (c.in_ok-take.ensures s (reverse read) has.reads) in
    let old = g.D.Device.taken c.args.out.now in
    let now = g.D.Device.taken c.loop-rows.out in
    let new = g.D.Device.taken c.write.new.out in
    rw (e.1, e.2) (
      read ++ line ∷ [],
      record {
        first = Follows-first s.longest g.R.Read.remaining known (read ++ line ∷ []) c.advance.new.self follows';
        part = RowsPart-next s d read line c.loop-rows.rows c.take.new.self old now new has rows c.in_err-write.ensures.part;
      },
    )

pub returns-in_err-flush-clause-broken : goal.returns-in_err-flush-clause-broken
returns-in_err-flush-clause-broken g c =
    let e = err_from_is_err_and c.from_residual-in_err-flush.result c.from_residual-in_err-flush.ensures.1 in
    let s = c.args.source in
    let (read, follows, has) = c.loop-rows.invariant.rows in
    let known = g.R.Read.remaining c.args.reader in
    let old = g.D.Device.taken c.args.out.now in
    let text = rows_of s c.args.schema.now read in
    rw (e.1, e.2) (
      read,
      record {
        first = Follows-first s.longest g.R.Read.remaining known read c.loop-rows.lines follows;
        part = TakesPart-all old (g.D.Device.taken c.flush.new.self) text (Keeps-Appends old (g.D.Device.taken c.loop-rows.out) (g.D.Device.taken c.flush.new.self) text has.text c.in_err-flush.ensures.kept);
      },
    )

pub returns-clause-written : goal.returns-clause-written
returns-clause-written g c =
    let s = c.args.source in
    let (read, follows, has) = c.loop-rows.invariant.rows in
    let known = g.R.Read.remaining c.args.reader in
    let old = g.D.Device.taken c.args.out.now in
    let text = rows_of s c.args.schema.now read in (
      read,
      record {
        all = rw c.if-branch.false at (c.in_ok-advance.ensures.advances s.longest known read follows);
        text = Keeps-Appends old (g.D.Device.taken c.loop-rows.out) (g.D.Device.taken c.flush.new.self) text has.text c.in_ok-flush.ensures.kept;
      },
    )
