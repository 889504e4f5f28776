use Rattle.std.proofs.Common.{◌++◌, subst}
use Rattle.csv.specs.Writing.{default_writer, row_text}
use Rattle.std.specs.Io.KnownBytes.{Appends}
use Rattle.wsm_csv.specs.Device.{TakesPart}
use Rattle.wsm_csv.specs.Rows.{cells_of}
use Rattle.wsm_kept.specs.Kept.{Cells}
use Rattle.wsm_kept.proofs.Written.{on_err, goes-start, goes-more, goes-part, goes-ended, goes-broken}
use Rattle.std.proofs.lemmas.Result.{err_from_is_err_and}
use Rattle.wsm_csv.specs.Rows.{error_of}
use Rattle.wsm_kept.proofs.Ending.{writes_end}
use Rattle.wsm_kept.proofs.write.write_others.Goals as goal

pub loop-rows-init : goal.loop-rows-init
loop-rows-init g c = record {
  works = c.requires;
  rows = λ known past follows. goes-start g.R.Read.remaining known past (g.D.Device.taken c.args.out.now) c.args.rows.now follows;
}

pub returns-in_err-advance-clause-begun : goal.returns-in_err-advance-clause-begun
returns-in_err-advance-clause-begun g c =
    λ known past start.
    let goes = c.loop-rows.invariant.rows known past start in
    let read = c.in_err-advance.ensures.advances known (past ++ goes.behind) goes.follows in
    on_err c.from_residual.result (goes-broken g.R.Read.remaining known past (g.D.Device.taken c.args.out.now) (g.D.Device.taken c.loop-rows.out) c.loop-rows.rows goes read.0)

pub loop-rows-preserved : goal.loop-rows-preserved
loop-rows-preserved g c = record {
  works = c.in_ok-hand_on.ensures.works;
  rows = λ known past start.
      let goes = c.loop-rows.invariant.rows known past start in
      let row = cells_of c.advance.new.self in
      let follows = rw c.if-branch.true at (c.in_ok-advance.ensures.advances known (past ++ goes.behind) goes.follows) in
      goes-more g.R.Read.remaining known past (g.D.Device.taken c.args.out.now) (g.D.Device.taken c.loop-rows.out) (g.D.Device.taken c.hand_on.new.out) c.loop-rows.rows c.advance.new.self row goes follows
      (subst (λ (f : Cells). Appends (g.D.Device.taken c.loop-rows.out) (g.D.Device.taken c.hand_on.new.out) (row_text default_writer f)) c.row.ensures c.in_ok-hand_on.ensures.all);
}

pub returns-in_err-hand_on-clause-begun : goal.returns-in_err-hand_on-clause-begun
returns-in_err-hand_on-clause-begun g c =
    λ known past start.
    let goes = c.loop-rows.invariant.rows known past start in
    let row = cells_of c.advance.new.self in
    let follows = rw c.if-branch.true at (c.in_ok-advance.ensures.advances known (past ++ goes.behind) goes.follows) in
    on_err c.from_residual-in_err-hand_on.result (goes-part g.R.Read.remaining known past (g.D.Device.taken c.args.out.now) (g.D.Device.taken c.loop-rows.out) (g.D.Device.taken c.hand_on.new.out) c.loop-rows.rows c.advance.new.self row goes follows
    (subst (λ (f : Cells). TakesPart (g.D.Device.taken c.loop-rows.out) (g.D.Device.taken c.hand_on.new.out) (row_text default_writer f)) c.row.ensures c.in_err-hand_on.ensures.part))

pub returns-clause-written : goal.returns-clause-written
returns-clause-written g c = λ known past start.
    let goes = c.loop-rows.invariant.rows known past start in
    let all = rw c.if-branch.false at (c.in_ok-advance.ensures.advances known (past ++ goes.behind) goes.follows) in
    goes-ended g.R.Read.remaining known past (g.D.Device.taken c.args.out.now) (g.D.Device.taken c.loop-rows.out) c.loop-rows.rows goes all

pub returns-in_err-advance-clause-ends : goal.returns-in_err-advance-clause-ends
returns-in_err-advance-clause-ends g c =
    let e = err_from_is_err_and c.from_residual.result c.from_residual.ensures.1 in
    rw (e.1, e.2) (writes_end (error_of c.advance.new.self) (g.D.Device.has_failed c.loop-rows.out) c.in_err-advance.field-0.0 c.in_err-advance.ensures.told c.loop-rows.invariant.works)

pub returns-in_err-hand_on-clause-ends : goal.returns-in_err-hand_on-clause-ends
returns-in_err-hand_on-clause-ends g c =
    let e = err_from_is_err_and c.from_residual-in_err-hand_on.result c.from_residual-in_err-hand_on.ensures.1 in
    rw (e.1, e.2) (c.in_err-hand_on.ensures.ends (error_of c.advance.new.self))
