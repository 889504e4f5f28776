use Rattle.std.proofs.Common.{◌∙◌, ◌++◌, ◌∷◌, [], Err, ap, inl, subst, sym}
use Rattle.std.proofs.lemmas.Result.{err_from_is_err_and}
use Rattle.wsm_csv.specs.Rows.{cells_of}
use Rattle.wsm_csv.proofs.RowsLemmas.{Follows-first}
use Rattle.wsm.specs.Written.{Cells}
use Rattle.wsm.proofs.Texts.{read_apart, read_only}
use Rattle.wsm_keyed_run.specs.Turns.{Turned}
use Rattle.wsm_keyed_run.proofs.Ended.{EndsEarly-read}
use Rattle.wsm_keyed_run.proofs.Steps.{Stands-next, Stands-start, Stands-text, TakesPart-next}
use Rattle.wsm_keyed_run.proofs.run.take_rows.Goals as goal

pub loop-turns-init : goal.loop-turns-init
loop-turns-init g c = record {
  works = c.requires.works;
  blocks = c.requires.blocks;
  turns = λ known k follows fits. ([], follows, Stands-start k (g.D.Device.taken c.args.out.now) c.args.turns.now fits);
}

pub returns-in_err-advance-clause-ends_early : goal.returns-in_err-advance-clause-ends_early
returns-in_err-advance-clause-ends_early g c =
    let e = err_from_is_err_and c.from_residual.result c.from_residual.ensures.1 in
    rw (e.1, e.2) (λ known k start fits.
    let (cells, follows, stands) = c.loop-turns.invariant.turns known k start fits in
    let read = c.in_err-advance.ensures.advances known cells follows in
    let old = g.D.Device.taken c.args.out.now in
    let new = g.D.Device.taken c.loop-turns.out in
    (cells, EndsEarly-read known k cells old new c.in_err-advance.field-0.0 read.0 (Stands-text k cells old new c.loop-turns.turns stands)))

pub returns-in_err-advance-clause-read_failed : goal.returns-in_err-advance-clause-read_failed
returns-in_err-advance-clause-read_failed g c =
    let e = err_from_is_err_and c.from_residual.result c.from_residual.ensures.1 in
    λ failed. sym c.in_err-advance.ensures.told ∙ read_only c.from_residual.result c.in_err-advance.field-0.0 (e.1 ∙ ap Err e.2) failed

pub returns-in_err-advance-clause-memory_apart : goal.returns-in_err-advance-clause-memory_apart
returns-in_err-advance-clause-memory_apart g c =
    let e = err_from_is_err_and c.from_residual.result c.from_residual.ensures.1 in
    rw (e.1, e.2) (read_apart c.in_err-advance.field-0.0)

pub returns-in_err-take-clause-ends_early : goal.returns-in_err-take-clause-ends_early
returns-in_err-take-clause-ends_early g c =
    let e = err_from_is_err_and c.from_residual-in_err-take.result c.from_residual-in_err-take.ensures.1 in
    rw (e.1, e.2) (λ known k start fits.
    let (cells, follows, stands) = c.loop-turns.invariant.turns known k start fits in
    (cells, record { first = Follows-first g.R.Read.remaining known cells c.loop-turns.rows follows; text = Stands-text k cells (g.D.Device.taken c.args.out.now) (g.D.Device.taken c.loop-turns.out) c.loop-turns.turns stands }))

pub loop-turns-preserved : goal.loop-turns-preserved
loop-turns-preserved g c = record {
  works = c.in_ok-write.ensures.works;
  blocks = c.in_ok-take.ensures.blocks;
  turns = λ known k start fits.
      let (cells, follows, stands) = c.loop-turns.invariant.turns known k start fits in
      let row = cells_of c.advance.new.self in
      let follows' = rw c.if-branch.true at (c.in_ok-advance.ensures.advances known cells follows) in
      let turned = subst (λ (f : Cells). Turned k c.take.new.self cells f) c.row.ensures (c.in_ok-take.ensures.turned k cells stands.fits) in
      let taken = c.in_ok-write.ensures.all in
      (cells ++ row ∷ [], follows', Stands-next k cells row (g.D.Device.taken c.args.out.now) (g.D.Device.taken c.loop-turns.out) (g.D.Device.taken c.write.new.out) c.loop-turns.turns c.take.new.self stands turned taken);
}

pub returns-in_err-write-clause-ends_early : goal.returns-in_err-write-clause-ends_early
returns-in_err-write-clause-ends_early g c =
    let e = err_from_is_err_and c.from_residual-in_err-write.result c.from_residual-in_err-write.ensures.1 in
    rw (e.1, e.2) (λ known k start fits.
    let (cells, follows, stands) = c.loop-turns.invariant.turns known k start fits in
    let row = cells_of c.advance.new.self in
    let follows' = rw c.if-branch.true at (c.in_ok-advance.ensures.advances known cells follows) in
    let turned = subst (λ (f : Cells). Turned k c.take.new.self cells f) c.row.ensures (c.in_ok-take.ensures.turned k cells stands.fits) in
    let part = c.in_err-write.ensures.part in (
      cells ++ row ∷ [],
      inl (record {
        first = Follows-first g.R.Read.remaining known (cells ++ row ∷ []) c.advance.new.self follows';
        part = TakesPart-next k cells row (g.D.Device.taken c.args.out.now) (g.D.Device.taken c.loop-turns.out) (g.D.Device.taken c.write.new.out) c.loop-turns.turns c.take.new.self stands turned part;
      }),
    ))

pub returns-clause-taken : goal.returns-clause-taken
returns-clause-taken g c = λ known k start fits.
    let (cells, follows, stands) = c.loop-turns.invariant.turns known k start fits in
    let all = rw c.if-branch.false at (c.in_ok-advance.ensures.advances known cells follows) in
    (cells, all, stands)
