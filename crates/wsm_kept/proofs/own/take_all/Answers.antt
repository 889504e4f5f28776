use Rattle.std.proofs.Common.{◌++◌, ◌∷◌, [], subst, sym}
use Rattle.wsm_machine.specs.Meaning.{query_of}
use Rattle.wsm_csv.specs.Cells.{event_of_cells}
use Rattle.wsm_csv.specs.Rows.{cells_of}
use Rattle.wsm_kept.specs.Kept.{Cells, rows_of}
use Rattle.wsm_kept.specs.Run.{Fits}
use Rattle.wsm_kept.proofs.RowLists.{rows_of-more}
use Rattle.wsm_kept.proofs.own.take_all.Goals as goal

pub loop-run-init : goal.loop-run-init
loop-run-init g c = λ known p follows fits. ([], follows, fits)

pub loop-run-preserved : goal.loop-run-preserved
loop-run-preserved g c = λ known p start fits.
    let (cells, follows, run) = c.loop-run.invariant known p start fits in
    let row = cells_of c.advance.new.self in
    let next = rw c.if-branch.true at (c.in_ok-advance.ensures.advances known cells follows) in
    let taken = subst (λ (f : Cells). Fits p c.take.new.self (event_of_cells p.header.schema f ∷ rows_of (query_of p) cells)) c.row.ensures (c.in_ok-take.ensures.fits p (rows_of (query_of p) cells) run) in
    (cells ++ row ∷ [], next, subst (Fits p c.take.new.self) (sym (rows_of-more (query_of p) cells row)) taken)

pub returns : goal.returns
returns g c = λ known p start fits.
    let (cells, follows, run) = c.loop-run.invariant known p start fits in
    (cells, rw c.if-branch.false at (c.in_ok-advance.ensures.advances known cells follows), run)
