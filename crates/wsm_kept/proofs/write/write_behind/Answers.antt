use Rattle.std.proofs.Common.{◌++◌, ◌∷◌, [], subst}
use Rattle.std.proofs.lemmas.Result.{on_ok_weaker, on_err_weaker}
use Rattle.std.specs.Io.KnownBytes.{Appends}
use Rattle.csv.specs.Writing.{default_writer, row_text}
use Rattle.wsm_csv.specs.Device.{TakesPart}
use Rattle.wsm_csv.specs.Rows.{cells_of}
use Rattle.wsm_csv.proofs.RowsLemmas.{Follows-first}
use Rattle.wsm_kept.specs.Kept.{Cells}
use Rattle.wsm_kept.proofs.Written.{on_err, first_behind, first_in_part, others_in_part}
use Rattle.std.proofs.lemmas.Result.{err_from_is_err_and}
use Rattle.wsm_csv.specs.Rows.{error_of}
use Rattle.wsm_kept.proofs.write.write_behind.Goals as goal

pub returns-in_err-hand_on-clause-begun : goal.returns-in_err-hand_on-clause-begun
returns-in_err-hand_on-clause-begun g c =
    λ known past follows.
    let old = g.D.Device.taken c.args.out.now in
    let new = g.D.Device.taken c.hand_on.new.out in
    on_err c.from_residual.result (first_in_part known past (cells_of c.args.rows.now) old new (Follows-first g.R.Read.remaining known (past ++ cells_of c.args.rows.now ∷ []) c.args.rows.now follows)
    (subst (λ (f : Cells). TakesPart old new (row_text default_writer f)) c.row.ensures c.in_err-hand_on.ensures.part))

pub returns-clause-written : goal.returns-clause-written
returns-clause-written g c = λ known past follows.
    let row = cells_of c.args.rows.now in
    let old = g.D.Device.taken c.args.out.now in
    let mid = g.D.Device.taken c.hand_on.new.out in
    let new = g.D.Device.taken c.write_others.new.out in
    let text = subst (λ (f : Cells). Appends old mid (row_text default_writer f)) c.row.ensures c.in_ok-hand_on.ensures.all in
    on_ok_weaker c.write_others.result (first_behind known past row old mid new text) (c.write_others.ensures.written known (past ++ row ∷ []) follows)

pub returns-clause-begun : goal.returns-clause-begun
returns-clause-begun g c = λ known past follows.
    let row = cells_of c.args.rows.now in
    let old = g.D.Device.taken c.args.out.now in
    let mid = g.D.Device.taken c.hand_on.new.out in
    let new = g.D.Device.taken c.write_others.new.out in
    let text = subst (λ (f : Cells). Appends old mid (row_text default_writer f)) c.row.ensures c.in_ok-hand_on.ensures.all in
    on_err_weaker c.write_others.result (others_in_part known past row old mid new text) (c.write_others.ensures.begun known (past ++ row ∷ []) follows)

pub returns-in_err-hand_on-clause-ends : goal.returns-in_err-hand_on-clause-ends
returns-in_err-hand_on-clause-ends g c =
    let e = err_from_is_err_and c.from_residual.result c.from_residual.ensures.1 in
    rw (e.1, e.2) (c.in_err-hand_on.ensures.ends (error_of c.args.rows.now))
