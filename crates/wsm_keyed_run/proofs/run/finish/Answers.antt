use Rattle.std.proofs.Common.{◌++◌, inr, subst}
use Rattle.std.proofs.lemmas.Result.{err_from_is_err_and}
use Rattle.std.specs.Io.KnownBytes.{Appends}
use Rattle.wsm_keyed_run.proofs.Ended.{all_first}
use Rattle.wsm_csv.specs.Device.{TakesPart}
use Rattle.wsm_csv.proofs.Written.{Appends-join, Keeps-Appends, TakesPart-all, TakesPart-last}
use Rattle.wsm_keyed_run.proofs.Steps.{Stands-text, last_text}
use Rattle.wsm_keyed_run.proofs.run.finish.Goals as goal

pub returns-in_err-totals-clause-ends_early : goal.returns-in_err-totals-clause-ends_early
returns-in_err-totals-clause-ends_early g c =
    let e = err_from_is_err_and c.from_residual.result c.from_residual.ensures.1 in
    rw (e.1, e.2) (λ known k cells old all stands.
    record { first = all_first known cells all; text = Stands-text k cells old (g.D.Device.taken c.args.out.now) c.args.turns.now stands })

-- the last line was not all taken
pub returns-in_err-write-clause-ends_early : goal.returns-in_err-write-clause-ends_early
returns-in_err-write-clause-ends_early g c =
    let e = err_from_is_err_and c.from_residual-in_err-write.result c.from_residual-in_err-write.ensures.1 in
    rw (e.1, e.2) (λ known k cells old all stands.
    let mid = g.D.Device.taken c.args.out.now in
    let new = g.D.Device.taken c.write.new.out in
    let text = last_text k cells old mid c.args.turns.now c.end.new.self c.in_ok-totals.totals stands (c.in_ok-totals.ensures k cells stands.fits) in
    inr (record {
      all = all;
      part = subst (TakesPart old new) text (TakesPart-last old mid new stands.bytes c.end.new.self.lines.items stands.text c.in_err-write.ensures.part);
    }))

pub returns-in_err-flush-clause-ends_early : goal.returns-in_err-flush-clause-ends_early
returns-in_err-flush-clause-ends_early g c =
    let e = err_from_is_err_and c.from_residual-in_err-flush.result c.from_residual-in_err-flush.ensures.1 in
    rw (e.1, e.2) (λ known k cells old all stands.
    let mid = g.D.Device.taken c.args.out.now in
    let new = g.D.Device.taken c.write.new.out in
    let end = g.D.Device.taken c.flush.new.self in
    let last = c.end.new.self.lines.items in
    let text = last_text k cells old mid c.args.turns.now c.end.new.self c.in_ok-totals.totals stands (c.in_ok-totals.ensures k cells stands.fits) in
    let whole = Keeps-Appends old new end (stands.bytes ++ last) (Appends-join old mid new stands.bytes last stands.text c.in_ok-write.ensures.all) c.in_err-flush.ensures.kept in
    inr (record { all = all; part = subst (TakesPart old end) text (TakesPart-all old end (stands.bytes ++ last) whole) }))

pub returns-clause-completes : goal.returns-clause-completes
returns-clause-completes g c = λ known k cells old all stands.
    let mid = g.D.Device.taken c.args.out.now in
    let new = g.D.Device.taken c.write.new.out in
    let end = g.D.Device.taken c.flush.new.self in
    let last = c.end.new.self.lines.items in
    let ends = c.in_ok-totals.ensures k cells stands.fits in
    let whole = Keeps-Appends old new end (stands.bytes ++ last) (Appends-join old mid new stands.bytes last stands.text c.in_ok-write.ensures.all) c.in_ok-flush.ensures.kept in
    record { all = all; text = subst (Appends old end) (last_text k cells old mid c.args.turns.now c.end.new.self c.in_ok-totals.totals stands ends) whole; numbers = ends.numbers }
