use Rattle.std.proofs.Common.{◌++◌, inr, subst}
use Rattle.std.proofs.lemmas.Result.{err_from_is_err_and}
use Rattle.std.specs.Io.KnownBytes.{Appends}
use Rattle.wsm_csv.specs.Device.{TakesPart}
use Rattle.wsm_csv.proofs.Written.{Appends-join, Keeps-Appends, TakesPart-all, TakesPart-last}
use Rattle.wsm_machine.specs.Meaning.{query_of}
use Rattle.wsm.specs.Written.{rows_of, turns_text}
use Rattle.wsm.proofs.Texts.{last_text}
use Rattle.wsm.proofs.run.finish.Goals as goal

-- the last line was not all taken
pub returns-in_err-write-clause-ends_early : goal.returns-in_err-write-clause-ends_early
returns-in_err-write-clause-ends_early g c =
    let e = err_from_is_err_and c.from_residual-in_err-write.result c.from_residual-in_err-write.ensures.1 in
    rw (e.1, e.2) (λ known p cells old all stands.
    let a = query_of p in
    let mid = g.D.Device.taken c.args.out.now in
    let new = g.D.Device.taken c.write.new.out in
    let part = c.in_err-write.ensures.part in
    let text = last_text p cells c.end.new.self c.in_ok-totals.totals (c.in_ok-totals.ensures p (rows_of a cells) stands.fits) in
    inr (record {
      all = all;
      part = subst (TakesPart old new) text (TakesPart-last old mid new (turns_text a cells) c.end.new.self.lines.items stands.text part);
    }))

pub returns-in_err-flush-clause-ends_early : goal.returns-in_err-flush-clause-ends_early
returns-in_err-flush-clause-ends_early g c =
    let e = err_from_is_err_and c.from_residual-in_err-flush.result c.from_residual-in_err-flush.ensures.1 in
    rw (e.1, e.2) (λ known p cells old all stands.
    let a = query_of p in
    let mid = g.D.Device.taken c.args.out.now in
    let new = g.D.Device.taken c.write.new.out in
    let end = g.D.Device.taken c.flush.new.self in
    let last = c.end.new.self.lines.items in
    let taken = c.in_ok-write.ensures.all in
    let text = last_text p cells c.end.new.self c.in_ok-totals.totals (c.in_ok-totals.ensures p (rows_of a cells) stands.fits) in
    let whole = Keeps-Appends old new end (turns_text a cells ++ last) (Appends-join old mid new (turns_text a cells) last stands.text taken) c.in_err-flush.ensures.kept in
    inr (record { all = all; part = subst (TakesPart old end) text (TakesPart-all old end (turns_text a cells ++ last) whole) }))

pub returns-clause-completes : goal.returns-clause-completes
returns-clause-completes g c = λ known p cells old all stands.
    let a = query_of p in
    let mid = g.D.Device.taken c.args.out.now in
    let new = g.D.Device.taken c.write.new.out in
    let end = g.D.Device.taken c.flush.new.self in
    let last = c.end.new.self.lines.items in
    let taken = c.in_ok-write.ensures.all in
    let ends = c.in_ok-totals.ensures p (rows_of a cells) stands.fits in
    let whole = Keeps-Appends old new end (turns_text a cells ++ last) (Appends-join old mid new (turns_text a cells) last stands.text taken) c.in_ok-flush.ensures.kept in
    record { all = all; text = subst (Appends old end) (last_text p cells c.end.new.self c.in_ok-totals.totals ends) whole; numbers = ends.numbers }
