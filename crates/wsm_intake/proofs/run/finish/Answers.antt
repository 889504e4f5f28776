use Rattle.std.proofs.Common.{◌++◌, inr, reverse, subst}
use Rattle.std.proofs.lemmas.Result.{err_from_is_err_and}
use Rattle.std.specs.Io.KnownBytes.{Appends}
use Rattle.wsm_csv.specs.Device.{TakesPart}
use Rattle.wsm_csv.proofs.Written.{Appends-join, Keeps-Appends, TakesPart-all, TakesPart-last}
use Rattle.wsm_machine.specs.Meaning.{query_of}
use Rattle.wsm_log_text.specs.LogText.{turns_text}
use Rattle.wsm_intake.specs.Run.{read_by}
use Rattle.wsm_intake.proofs.Texts.{last_text}
use Rattle.wsm_intake.proofs.run.finish.Goals as goal

-- the last line was not all taken
pub returns-in_err-write-clause-ends_early : goal.returns-in_err-write-clause-ends_early
returns-in_err-write-clause-ends_early g c =
    let e = err_from_is_err_and c.from_residual-in_err-write.result c.from_residual-in_err-write.ensures.1 in
    rw (e.1, e.2) (λ known s clocks p read old all stands.
    let mid = g.D.Device.taken c.args.out.now in
    let new = g.D.Device.taken c.write.new.out in
    let turns = turns_text (query_of p) clocks (read_by s clocks (query_of p) read) in
    let whole = last_text s clocks p read c.end.new.self c.in_ok-end.end (c.in_ok-end.ensures s clocks p (reverse read) stands.fits) in
    inr (record { all = all; part = subst (TakesPart old new) whole (TakesPart-last old mid new turns c.end.new.self.told.lines.items stands.text c.in_err-write.ensures.part) }))

pub returns-in_err-flush-clause-ends_early : goal.returns-in_err-flush-clause-ends_early
returns-in_err-flush-clause-ends_early g c =
    let e = err_from_is_err_and c.from_residual-in_err-flush.result c.from_residual-in_err-flush.ensures.1 in
    rw (e.1, e.2) (λ known s clocks p read old all stands.
    let mid = g.D.Device.taken c.args.out.now in
    let new = g.D.Device.taken c.write.new.out in
    let flushed = g.D.Device.taken c.flush.new.self in
    let last = c.end.new.self.told.lines.items in
    let turns = turns_text (query_of p) clocks (read_by s clocks (query_of p) read) in
    let whole = last_text s clocks p read c.end.new.self c.in_ok-end.end (c.in_ok-end.ensures s clocks p (reverse read) stands.fits) in
    let written = Keeps-Appends old new flushed (turns ++ last) (Appends-join old mid new turns last stands.text c.in_ok-write.ensures.all) c.in_err-flush.ensures.kept in
    inr (record { all = all; part = subst (TakesPart old flushed) whole (TakesPart-all old flushed (turns ++ last) written) }))

pub returns-clause-completes : goal.returns-clause-completes
returns-clause-completes g c = λ known s clocks p read old all stands.
    let mid = g.D.Device.taken c.args.out.now in
    let new = g.D.Device.taken c.write.new.out in
    let flushed = g.D.Device.taken c.flush.new.self in
    let last = c.end.new.self.told.lines.items in
    let turns = turns_text (query_of p) clocks (read_by s clocks (query_of p) read) in
    let ends = c.in_ok-end.ensures s clocks p (reverse read) stands.fits in
    let written = Keeps-Appends old new flushed (turns ++ last) (Appends-join old mid new turns last stands.text c.in_ok-write.ensures.all) c.in_ok-flush.ensures.kept in
    record { all = all; text = subst (Appends old flushed) (last_text s clocks p read c.end.new.self c.in_ok-end.end ends) written; numbers = ends.numbers }

pub returns-clause-counts : goal.returns-clause-counts
returns-clause-counts g c = λ known s clocks p read old all stands. (read, all, (c.in_ok-end.ensures s clocks p (reverse read) stands.fits).counts)
