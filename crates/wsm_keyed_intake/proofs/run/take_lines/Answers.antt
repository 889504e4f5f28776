use Rattle.std.proofs.Common.{◌++◌, ◌∷◌, [], inl, reverse, subst}
use Rattle.std.proofs.lemmas.Result.{err_from_is_err_and}
use Rattle.wsm_log.specs.Lines.{line_of}
use Rattle.wsm_log_rows.proofs.Reading.{Follows-first}
use Rattle.wsm_keyed_intake.specs.Turns.{Turned}
use Rattle.wsm_keyed_intake.proofs.Texts.{Stands-next, Stands-start, Stands-text, TakesPart-next}
use Rattle.wsm_keyed_intake.proofs.run.take_lines.Goals as goal

pub loop-intake-init : goal.loop-intake-init
loop-intake-init g c = record {
  works = c.requires;
  turns = λ known k follows fits. ([], follows, Stands-start k (g.D.Device.taken c.args.out.now) c.args.intake.now fits);
}

pub loop-intake-preserved : goal.loop-intake-preserved
loop-intake-preserved g c = record {
  works = c.in_ok-write.ensures.works;
  turns = λ known k start fits.
      let (read, follows, stands) = c.loop-intake.invariant.turns known k start fits in
      let line = line_of c.advance.new.self in
      let follows' = rw c.if-branch.true at (c.in_ok-advance.ensures.advances k.source.longest known read follows) in
      let turned = subst (Turned k c.take.new.self (reverse read)) c.line.ensures.value (c.in_ok-take.ensures.turned k (reverse read) stands.fits) in
      (read ++ line ∷ [], follows', Stands-next k read line c.loop-intake.intake c.take.new.self turned (g.D.Device.taken c.args.out.now) (g.D.Device.taken c.loop-intake.out) (g.D.Device.taken c.write.new.out) stands c.in_ok-write.ensures.all);
}

pub returns-in_err-advance-clause-ends_early : goal.returns-in_err-advance-clause-ends_early
returns-in_err-advance-clause-ends_early g c =
    let e = err_from_is_err_and c.from_residual.result c.from_residual.ensures.1 in
    rw (e.1, e.2) (λ known k start fits.
    let (read, follows, stands) = c.loop-intake.invariant.turns known k start fits in (
      read,
      record {
        first = Follows-first k.source.longest g.R.Read.remaining known read c.loop-intake.lines follows;
        text = Stands-text k read (g.D.Device.taken c.args.out.now) (g.D.Device.taken c.loop-intake.out) c.loop-intake.intake stands;
      },
    ))

pub returns-in_err-take-clause-ends_early : goal.returns-in_err-take-clause-ends_early
returns-in_err-take-clause-ends_early g c =
    let e = err_from_is_err_and c.from_residual-in_err-take.result c.from_residual-in_err-take.ensures.1 in
    rw (e.1, e.2) (λ known k start fits.
    let (read, follows, stands) = c.loop-intake.invariant.turns known k start fits in (
      read,
      record {
        first = Follows-first k.source.longest g.R.Read.remaining known read c.loop-intake.lines follows;
        text = Stands-text k read (g.D.Device.taken c.args.out.now) (g.D.Device.taken c.loop-intake.out) c.loop-intake.intake stands;
      },
    ))

pub returns-in_err-write-clause-ends_early : goal.returns-in_err-write-clause-ends_early
returns-in_err-write-clause-ends_early g c =
    let e = err_from_is_err_and c.from_residual-in_err-write.result c.from_residual-in_err-write.ensures.1 in
    rw (e.1, e.2) (λ known k start fits.
    let (read, follows, stands) = c.loop-intake.invariant.turns known k start fits in
    let line = line_of c.advance.new.self in
    let follows' = rw c.if-branch.true at (c.in_ok-advance.ensures.advances k.source.longest known read follows) in
    let turned = subst (Turned k c.take.new.self (reverse read)) c.line.ensures.value (c.in_ok-take.ensures.turned k (reverse read) stands.fits) in (
      read ++ line ∷ [],
      inl (record {
        first = Follows-first k.source.longest g.R.Read.remaining known (read ++ line ∷ []) c.advance.new.self follows';
        part = TakesPart-next k read line c.loop-intake.intake c.take.new.self turned (g.D.Device.taken c.args.out.now) (g.D.Device.taken c.loop-intake.out) (g.D.Device.taken c.write.new.out) stands c.in_err-write.ensures.part;
      }),
    ))
