use Rattle.std.proofs.Common.{[]}
use Rattle.std.specs.Prelude.{Result, Ok, Err, IfErr, IfOk, List}
use Rattle.std.proofs.lemmas.Result.{err_from_is_err_and}
use Rattle.wsm_semantics.specs.declared.ending.Totals.{Totals}
use Rattle.wsm_machine.specs.Meaning.{query_of}
use Rattle.wsm_inputs.specs.declared.end.End.{End}
use Rattle.wsm.specs.Written.{Cells, Completes, EndsEarly}
use Rattle.wsm_deal.proofs.FirstRows.{none_first}
use Rattle.wsm.proofs.Texts.{Appends-none}
use Rattle.wsm.proofs.run.run_verified.Goals as goal

-- what is told of some cells is told of cells
cells_of_end : (P : End → List Cells → Type 0) (r : Result Totals End) (cells : List Cells) → IfErr r (λ end. P end cells) → IfErr r (λ end. (x : List Cells) × P end x)
cells_of_end P (Ok totals) cells h = h
cells_of_end P (Err end) cells h = (cells, h)

cells_of_totals : (P : Totals → List Cells → Type 0) (r : Result Totals End) (cells : List Cells) → IfOk r (λ totals. P totals cells) → IfOk r (λ totals. (x : List Cells) × P totals x)
cells_of_totals P (Ok totals) cells h = (cells, h)
cells_of_totals P (Err end) cells h = h

pub returns-in_err-turns-clause-ends_early : goal.returns-in_err-turns-clause-ends_early
returns-in_err-turns-clause-ends_early g c =
    let e = err_from_is_err_and c.from_residual.result c.from_residual.ensures.1 in
    rw (e.1, e.2) (λ known start. ([], record { first = none_first known; text = Appends-none (query_of c.args.verified) (g.D.Device.taken c.args.out.now) }))

pub returns-in_err-take_rows-clause-ends_early : goal.returns-in_err-take_rows-clause-ends_early
returns-in_err-take_rows-clause-ends_early g c =
    let e = err_from_is_err_and c.from_residual-in_err-take_rows.result c.from_residual-in_err-take_rows.ensures.1 in
    rw (e.1, e.2) (λ known start. c.in_err-take_rows.ensures.ends_early known c.args.verified start c.in_ok-turns.ensures)

pub returns-clause-completes : goal.returns-clause-completes
returns-clause-completes g c = λ known start.
    let t = c.in_ok-take_rows.ensures.taken known c.args.verified start c.in_ok-turns.ensures in
    let old = g.D.Device.taken c.args.out.now in
    cells_of_totals (λ totals cells. Completes known (query_of c.args.verified) cells old (g.D.Device.taken c.finish.new.out) totals) c.finish.result t.0
    (c.finish.ensures.completes known c.args.verified t.0 old t.1 t.2)

pub returns-clause-ends_early : goal.returns-clause-ends_early
returns-clause-ends_early g c = λ known start.
    let t = c.in_ok-take_rows.ensures.taken known c.args.verified start c.in_ok-turns.ensures in
    let old = g.D.Device.taken c.args.out.now in
    cells_of_end (λ end cells. EndsEarly known (query_of c.args.verified) cells old (g.D.Device.taken c.finish.new.out) end) c.finish.result t.0
    (c.finish.ensures.ends_early known c.args.verified t.0 old t.1 t.2)

pub returns-in_err-take_rows-clause-memory_apart : goal.returns-in_err-take_rows-clause-memory_apart
returns-in_err-take_rows-clause-memory_apart g c =
    let e = err_from_is_err_and c.from_residual-in_err-take_rows.result c.from_residual-in_err-take_rows.ensures.1 in
    rw (e.1, e.2) c.in_err-take_rows.ensures.memory_apart
