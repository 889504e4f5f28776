use Rattle.std.proofs.Common.{ℕ, List, subst}
use Rattle.std.specs.Io.KnownBytes.{Appends}
use Rattle.wsm_csv.specs.Device.{TakesPart}
use Rattle.wsm_kept.proofs.Written.{on_err, begun_first, begun_behind, begun_whole, is_written}
use Rattle.std.proofs.lemmas.Result.{err_from_is_err_and}
use Rattle.wsm_kept.proofs.write.write_cut.Goals as goal

pub returns-in_err-write_out-clause-begun : goal.returns-in_err-write_out-clause-begun
returns-in_err-write_out-clause-begun g c =
    λ known q sum is.
    let old = g.D.Device.taken c.args.out.now in
    let new = g.D.Device.taken c.write_out.new.device in
    on_err c.from_residual.result (begun_first g.R.Read.remaining known q sum c.args.rows.now c.args.cut.now is old new (subst (λ (t : List ℕ). TakesPart old new t) c.deref.ensures.value c.in_err-write_out.ensures.part))

pub returns-in_err-write_rest-clause-begun : goal.returns-in_err-write_rest-clause-begun
returns-in_err-write_rest-clause-begun g c =
    λ known q sum is.
    let old = g.D.Device.taken c.args.out.now in
    let mid = g.D.Device.taken c.write_out.new.device in
    let new = g.D.Device.taken c.write_rest.new.out in
    on_err c.from_residual-in_err-write_rest.result (begun_behind g.R.Read.remaining known q sum c.args.rows.now c.args.cut.now is old mid new (subst (λ (t : List ℕ). Appends old mid t) c.deref.ensures.value c.in_ok-write_out.ensures.all)
    (c.in_err-write_rest.ensures.begun known is.past is.read))

pub returns-in_err-flush-clause-begun : goal.returns-in_err-flush-clause-begun
returns-in_err-flush-clause-begun g c =
    λ known q sum is.
    let old = g.D.Device.taken c.args.out.now in
    let mid = g.D.Device.taken c.write_out.new.device in
    let last = g.D.Device.taken c.write_rest.new.out in
    let new = g.D.Device.taken c.flush.new.self in
    on_err c.from_residual-in_err-flush.result (begun_whole g.R.Read.remaining known q sum c.args.rows.now c.args.cut.now is old mid last new (subst (λ (t : List ℕ). Appends old mid t) c.deref.ensures.value c.in_ok-write_out.ensures.all)
    (c.in_ok-write_rest.ensures.written known is.past is.read) c.in_err-flush.ensures.kept)

pub returns-clause-written : goal.returns-clause-written
returns-clause-written g c = λ known q sum is.
    let old = g.D.Device.taken c.args.out.now in
    let mid = g.D.Device.taken c.write_out.new.device in
    let last = g.D.Device.taken c.write_rest.new.out in
    let new = g.D.Device.taken c.flush.new.self in
    is_written g.R.Read.remaining known q sum c.args.rows.now c.args.cut.now is old mid last new (subst (λ (t : List ℕ). Appends old mid t) c.deref.ensures.value c.in_ok-write_out.ensures.all)
    (c.in_ok-write_rest.ensures.written known is.past is.read) c.in_ok-flush.ensures.kept

pub returns-in_err-write_out-clause-ends : goal.returns-in_err-write_out-clause-ends
returns-in_err-write_out-clause-ends g c =
    let e = err_from_is_err_and c.from_residual.result c.from_residual.ensures.1 in
    rw (e.1, e.2) c.in_err-write_out.ensures.fails

pub returns-in_err-write_rest-clause-ends : goal.returns-in_err-write_rest-clause-ends
returns-in_err-write_rest-clause-ends g c =
    let e = err_from_is_err_and c.from_residual-in_err-write_rest.result c.from_residual-in_err-write_rest.ensures.1 in
    rw (e.1, e.2) c.in_err-write_rest.ensures.ends

pub returns-in_err-flush-clause-ends : goal.returns-in_err-flush-clause-ends
returns-in_err-flush-clause-ends g c =
    let e = err_from_is_err_and c.from_residual-in_err-flush.result c.from_residual-in_err-flush.ensures.1 in
    rw (e.1, e.2) c.in_err-flush.ensures.fails
