use Rattle.std.proofs.Common.{◌++◌, ◌∷◌, [], inl, reverse, subst}
use Rattle.std.proofs.lemmas.Result.{err_from_is_err_and}
use Rattle.wsm_log.specs.Lines.{line_of}
use Rattle.wsm_log_rows.proofs.Reading.{Follows-first}
use Rattle.wsm_row_watermarks.specs.declared.text.TheConstants.{LONGEST}
use Rattle.wsm_row_watermarks.specs.Fits.{Turned}
use Rattle.wsm_row_watermarks.proofs.Texts.{Stands-next, Stands-start, TakesPart-next}
use Rattle.wsm_row_watermarks.proofs.write.take_lines.Goals as goal

pub loop-turns-init : goal.loop-turns-init
loop-turns-init g c = record {
  works = c.requires;
  turns = λ known w once follows fits. ([], follows, Stands-start w once (g.D.Device.taken c.args.out.now) c.args.turns.now fits);
}

pub loop-turns-preserved : goal.loop-turns-preserved
loop-turns-preserved g c = record {
  works = c.in_ok-write.ensures.works;
  turns = λ known w once start fits.
      let (read, follows, stands) = c.loop-turns.invariant.turns known w once start fits in
      let line = line_of c.advance.new.self in
      let follows' = rw c.if-branch.true at (c.in_ok-advance.ensures.advances LONGEST known read follows) in
      let turned = subst (Turned w once c.take.new.self (reverse read)) c.line.ensures.value (c.in_ok-take.ensures w once (reverse read) stands.fits) in
      (read ++ line ∷ [], follows', Stands-next w once read line c.loop-turns.turns c.take.new.self turned (g.D.Device.taken c.args.out.now) (g.D.Device.taken c.loop-turns.out) (g.D.Device.taken c.write.new.out) stands c.in_ok-write.ensures.all);
}

pub returns-in_err-write-clause-broken : goal.returns-in_err-write-clause-broken
returns-in_err-write-clause-broken g c =
    let e = err_from_is_err_and c.from_residual-in_err-write.result c.from_residual-in_err-write.ensures.1 in
    rw (e.1, e.2) (λ known w once last start fits.
    let (read, follows, stands) = c.loop-turns.invariant.turns known w once start fits in
    let line = line_of c.advance.new.self in
    let follows' = rw c.if-branch.true at (c.in_ok-advance.ensures.advances LONGEST known read follows) in
    let turned = subst (Turned w once c.take.new.self (reverse read)) c.line.ensures.value (c.in_ok-take.ensures w once (reverse read) stands.fits) in (
      read ++ line ∷ [],
      inl (record {
        first = Follows-first LONGEST g.R.Read.remaining known (read ++ line ∷ []) c.advance.new.self follows';
        part = TakesPart-next w once read line c.loop-turns.turns c.take.new.self turned (g.D.Device.taken c.args.out.now) (g.D.Device.taken c.loop-turns.out) (g.D.Device.taken c.write.new.out) stands c.in_err-write.ensures.part;
      }),
    ))

pub returns-in_err-advance-clause-broken : goal.returns-in_err-advance-clause-broken
returns-in_err-advance-clause-broken g c =
    let e = err_from_is_err_and c.from_residual.result c.from_residual.ensures.1 in
    rw (e.1, e.2) (λ known w once last start fits.
    let (read, follows, stands) = c.loop-turns.invariant.turns known w once start fits in
    (read, record { first = c.in_err-advance.ensures.advances LONGEST known read follows; text = stands.text }))

pub returns-in_err-take-clause-broken : goal.returns-in_err-take-clause-broken
returns-in_err-take-clause-broken g c =
    let e = err_from_is_err_and c.from_residual-in_err-take.result c.from_residual-in_err-take.ensures.1 in
    rw (e.1, e.2) (λ known w once last start fits.
    let (read, follows, stands) = c.loop-turns.invariant.turns known w once start fits in
    (read, record { first = Follows-first LONGEST g.R.Read.remaining known read c.loop-turns.lines follows; text = stands.text }))

pub returns-clause-taken : goal.returns-clause-taken
returns-clause-taken g c = λ known w once start fits.
    let (read, follows, stands) = c.loop-turns.invariant.turns known w once start fits in
    (read, rw c.if-branch.false at (c.in_ok-advance.ensures.advances LONGEST known read follows), stands)
