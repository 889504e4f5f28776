use Rattle.std.proofs.Common.{◌++◌, inr, reverse, subst}
use Rattle.std.proofs.lemmas.Result.{err_from_is_err_and}
use Rattle.std.specs.Io.KnownBytes.{Appends}
use Rattle.wsm_csv.specs.Device.{TakesPart}
use Rattle.wsm_csv.proofs.Written.{Appends-join, Keeps-Appends, TakesPart-all, TakesPart-last}
use Rattle.wsm_row_watermarks.specs.Run.{read as lines_read}
use Rattle.wsm_row_watermarks.specs.Turns.{rows_text}
use Rattle.wsm_row_watermarks.proofs.Texts.{last_text}
use Rattle.wsm_row_watermarks.proofs.write.finish.Goals as goal

-- the last rows were not all taken
pub returns-in_err-write-clause-ends_early : goal.returns-in_err-write-clause-ends_early
returns-in_err-write-clause-ends_early g c =
    let e = err_from_is_err_and c.from_residual-in_err-write.result c.from_residual-in_err-write.ensures.1 in
    rw (e.1, e.2) (λ known w once read old all stands.
    let mid = g.D.Device.taken c.args.out.now in
    let new = g.D.Device.taken c.write.new.out in
    let rows = rows_text w (lines_read w once read) in
    let whole = last_text w once c.args.last read c.end.new.self c.in_ok-totals.totals (c.in_ok-totals.ensures w once (reverse read) stands.fits) in
    inr (record { all = all; part = subst (TakesPart old new) whole (TakesPart-last old mid new rows c.end.new.self.handed.text.items stands.text c.in_err-write.ensures.part) }))

pub returns-in_err-flush-clause-ends_early : goal.returns-in_err-flush-clause-ends_early
returns-in_err-flush-clause-ends_early g c =
    let e = err_from_is_err_and c.from_residual-in_err-flush.result c.from_residual-in_err-flush.ensures.1 in
    rw (e.1, e.2) (λ known w once read old all stands.
    let mid = g.D.Device.taken c.args.out.now in
    let new = g.D.Device.taken c.write.new.out in
    let end = g.D.Device.taken c.flush.new.self in
    let last = c.end.new.self.handed.text.items in
    let rows = rows_text w (lines_read w once read) in
    let whole = last_text w once c.args.last read c.end.new.self c.in_ok-totals.totals (c.in_ok-totals.ensures w once (reverse read) stands.fits) in
    let written = Keeps-Appends old new end (rows ++ last) (Appends-join old mid new rows last stands.text c.in_ok-write.ensures.all) c.in_err-flush.ensures.kept in
    inr (record { all = all; part = subst (TakesPart old end) whole (TakesPart-all old end (rows ++ last) written) }))

pub returns-clause-completes : goal.returns-clause-completes
returns-clause-completes g c = λ known w once read old all stands.
    let mid = g.D.Device.taken c.args.out.now in
    let new = g.D.Device.taken c.write.new.out in
    let end = g.D.Device.taken c.flush.new.self in
    let last = c.end.new.self.handed.text.items in
    let rows = rows_text w (lines_read w once read) in
    let ends = c.in_ok-totals.ensures w once (reverse read) stands.fits in
    let written = Keeps-Appends old new end (rows ++ last) (Appends-join old mid new rows last stands.text c.in_ok-write.ensures.all) c.in_ok-flush.ensures.kept in
    record { all = all; text = subst (Appends old end) (last_text w once c.args.last read c.end.new.self c.in_ok-totals.totals ends) written; totals = ends.totals }
