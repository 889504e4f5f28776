use Rattle.std.proofs.Common.{◌∷◌, ◌++◌, ◌<◌, ◌≤◌, [], List, map, reverse, subst, sym, arith}
use Rattle.std.proofs.lemmas.Result.{on_ok_weaker}
use Rattle.csv.specs.Records.{fields_of}
use Rattle.wsm_semantics.specs.Lines.{Row}
use Rattle.wsm_machine.specs.Meaning.{query_of}
use Rattle.wsm_kept.specs.declared.counts.Counts.{Counts}
use Rattle.wsm_kept.specs.declared.run.Run.{Run}
use Rattle.wsm_keep.specs.Holds.{read}
use Rattle.wsm_kept.specs.Kept.{rows_of, written}
use Rattle.wsm_kept.specs.Run as run
use Rattle.wsm_kept.proofs.Passed.{cut_more, goes_on, stops, with_run}
use Rattle.wsm_kept.proofs.RowLists.{rows_of-more}
use Rattle.wsm_kept.proofs.Texts.{read_written}
use Rattle.std.proofs.lemmas.Result.{err_from_is_err_and}
use Rattle.wsm_kept.proofs.Ending.{begun_ends, go_on_ends, stop_ends}
use Rattle.wsm_kept.proofs.pass.Pass.take.Goals as goal

pub returns-then-self-counts-clause-taken : goal.returns-then-self-counts-clause-taken
returns-then-self-counts-clause-taken c = λ p past fits.
    let row = fields_of c.args.row.now in
    let begun = c.begin.new.self in
    let cuts = c.in_ok-begin.ensures.begun p past fits in
    let rows = c.in_ok-told.ensures.fits p (rows_of (query_of p) past) (subst (λ (r : Run). run.Fits p r (rows_of (query_of p) past)) (sym c.in_ok-begin.ensures.run) fits.run) in
    let beyond : begun.most < c.counts.result.lines = omega (arith, c.if-self-counts.true) in
    stops p (record begun { run = c.take.new.self }) past row c.stop.result rows (subst (λ (n : Counts). begun.most < n.lines) c.counts.ensures beyond)
    (c.stop.ensures.stops p past row (with_run p begun c.take.new.self past (past ++ row ∷ []) rows.engine.program cuts))

pub returns-clause-taken : goal.returns-clause-taken
returns-clause-taken c = λ p past fits.
    let row = fields_of c.args.row.now in
    let begun = c.begin.new.self in
    let q = query_of p in
    let cuts = c.in_ok-begin.ensures.begun p past fits in
    let rows = c.in_ok-told.ensures.fits p (rows_of q past) (subst (λ (r : Run). run.Fits p r (rows_of q past)) (sym c.in_ok-begin.ensures.run) fits.run) in
    let before : run.Fits p begun.run (map read (written q past)) = subst (λ (rs : List Row). run.Fits p begun.run rs) (sym (read_written q (reverse past)))
    (subst (λ (r : Run). run.Fits p r (rows_of q past)) (sym c.in_ok-begin.ensures.run) fits.run) in
    let tells = c.in_ok-told.ensures.told p (written q past) before in
    let wrote = c.in_ok-told.ensures.rows p (map read (written q past)) before in
    let keeps = cuts.cutter in
    let all = subst (λ (rs : List Row). run.Fits p c.take.new.self rs) (sym (rows_of-more q past row)) rows in
    let within : c.counts.result.lines ≤ begun.most = omega (arith, c.if-self-counts.false) in
    let others = c.in_ok-keep.ensures.others in
    goes_on p c.go_on.new.self past row c.go_on.result c.go_on.ensures.cut
    (on_ok_weaker c.go_on.result
    (λ own. cut_more p begun c.keep.new.self c.go_on.new.self c.take.new.self others c.go_on.ensures.counts past row cuts all (c.in_ok-keep.ensures.cutter p past tells wrote keeps)
    (subst (λ (n : Counts). n.lines ≤ begun.most) c.counts.ensures within) own)
    c.go_on.ensures.own)

pub returns-in_err-begin-clause-ends : goal.returns-in_err-begin-clause-ends
returns-in_err-begin-clause-ends c =
    let e = err_from_is_err_and c.from_residual.result c.from_residual.ensures.1 in
    rw (e.1, e.2) (λ p past fits. begun_ends (query_of p) c.args.self.now.asked past (fields_of c.args.row.now) c.in_err-begin.field-0.0 (c.in_err-begin.ensures.ends p past fits))

pub returns-in_err-told-clause-ends : goal.returns-in_err-told-clause-ends
returns-in_err-told-clause-ends c =
    let e = err_from_is_err_and c.from_residual-in_err-told.result c.from_residual-in_err-told.ensures.1 in
    rw (e.1, e.2) (λ p past fits. tt)

pub returns-in_err-keep-clause-ends : goal.returns-in_err-keep-clause-ends
returns-in_err-keep-clause-ends c =
    let e = err_from_is_err_and c.from_residual-in_err-keep.result c.from_residual-in_err-keep.ensures.1 in
    rw (e.1, e.2) (λ p past fits. tt)

pub returns-then-self-counts-clause-ends : goal.returns-then-self-counts-clause-ends
returns-then-self-counts-clause-ends c = λ p past fits.
    let row = fields_of c.args.row.now in
    let begun = c.begin.new.self in
    let cuts = c.in_ok-begin.ensures.begun p past fits in
    let rows = c.in_ok-told.ensures.fits p (rows_of (query_of p) past) (subst (λ (r : Run). run.Fits p r (rows_of (query_of p) past)) (sym c.in_ok-begin.ensures.run) fits.run) in
    let beyond : begun.most < c.counts.result.lines = omega (arith, c.if-self-counts.true) in
    stop_ends p begun c.args.self.now.asked c.take.new.self past row c.stop.result cuts rows c.in_ok-begin.ensures.asked (subst (λ (n : Counts). begun.most < n.lines) c.counts.ensures beyond) c.stop.ensures.ends

pub returns-clause-ends : goal.returns-clause-ends
returns-clause-ends c = λ p past fits.
    let row = fields_of c.args.row.now in
    let begun = c.begin.new.self in
    let cuts = c.in_ok-begin.ensures.begun p past fits in
    let rows = c.in_ok-told.ensures.fits p (rows_of (query_of p) past) (subst (λ (r : Run). run.Fits p r (rows_of (query_of p) past)) (sym c.in_ok-begin.ensures.run) fits.run) in
    go_on_ends p begun c.keep.new.self c.args.self.now.asked c.take.new.self past row c.go_on.result cuts rows c.in_ok-begin.ensures.asked c.in_ok-keep.ensures.others c.go_on.ensures.ends
