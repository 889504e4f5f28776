use Rattle.std.proofs.Common.{◌∙◌, ◌++◌, ℕ, List, [], Option, Some, None, append-nil, inr, reverse, subst}
use Rattle.wsm_log.specs.LinesOf.{AreAll, AreFirst}
use Rattle.std.proofs.lemmas.Result.{err_from_is_err_and}
use Rattle.std.specs.Io.KnownBytes.{Appends}
use Rattle.wsm_csv.specs.Device.{TakesPart}
use Rattle.wsm_csv.proofs.Written.{Appends-join, Keeps-Appends, TakesPart-all, TakesPart-last}
use Rattle.wsm_keyed_intake.proofs.Texts.{Stands-text, last_text}
use Rattle.wsm_keyed_intake.proofs.run.finish.Goals as goal

-- all lines are the first of them
all_first : (longest : ℕ) (known : Option (List ℕ)) (lines : List (List ℕ)) → AreAll longest known lines → AreFirst longest known lines
all_first longest None lines all = tt
all_first longest (Some bytes) lines all = ([], append-nil lines ∙ all)

pub returns-in_err-end-clause-ends_early : goal.returns-in_err-end-clause-ends_early
returns-in_err-end-clause-ends_early g c =
    let e = err_from_is_err_and c.from_residual.result c.from_residual.ensures.1 in
    rw (e.1, e.2) (λ known k read old all stands.
    record { first = all_first k.source.longest known read all; text = Stands-text k read old (g.D.Device.taken c.args.out.now) c.args.intake.now stands })

-- the last line was not all taken
pub returns-in_err-write-clause-ends_early : goal.returns-in_err-write-clause-ends_early
returns-in_err-write-clause-ends_early g c =
    let e = err_from_is_err_and c.from_residual-in_err-write.result c.from_residual-in_err-write.ensures.1 in
    rw (e.1, e.2) (λ known k read old all stands.
    let mid = g.D.Device.taken c.args.out.now in
    let new = g.D.Device.taken c.write.new.out in
    let whole = last_text k read old mid c.args.intake.now c.end.new.self c.in_ok-end.end stands (c.in_ok-end.ensures k (reverse read) stands.fits) in
    inr (record { all = all; part = subst (TakesPart old new) whole (TakesPart-last old mid new stands.bytes c.end.new.self.told.lines.items stands.text c.in_err-write.ensures.part) }))

pub returns-in_err-flush-clause-ends_early : goal.returns-in_err-flush-clause-ends_early
returns-in_err-flush-clause-ends_early g c =
    let e = err_from_is_err_and c.from_residual-in_err-flush.result c.from_residual-in_err-flush.ensures.1 in
    rw (e.1, e.2) (λ known k read old all stands.
    let mid = g.D.Device.taken c.args.out.now in
    let new = g.D.Device.taken c.write.new.out in
    let flushed = g.D.Device.taken c.flush.new.self in
    let last = c.end.new.self.told.lines.items in
    let whole = last_text k read old mid c.args.intake.now c.end.new.self c.in_ok-end.end stands (c.in_ok-end.ensures k (reverse read) stands.fits) in
    let written = Keeps-Appends old new flushed (stands.bytes ++ last) (Appends-join old mid new stands.bytes last stands.text c.in_ok-write.ensures.all) c.in_err-flush.ensures.kept in
    inr (record { all = all; part = subst (TakesPart old flushed) whole (TakesPart-all old flushed (stands.bytes ++ last) written) }))

pub returns-clause-completes : goal.returns-clause-completes
returns-clause-completes g c = λ known k read old all stands.
    let mid = g.D.Device.taken c.args.out.now in
    let new = g.D.Device.taken c.write.new.out in
    let flushed = g.D.Device.taken c.flush.new.self in
    let last = c.end.new.self.told.lines.items in
    let ends = c.in_ok-end.ensures k (reverse read) stands.fits in
    let written = Keeps-Appends old new flushed (stands.bytes ++ last) (Appends-join old mid new stands.bytes last stands.text c.in_ok-write.ensures.all) c.in_ok-flush.ensures.kept in
    record { all = all; text = subst (Appends old flushed) (last_text k read old mid c.args.intake.now c.end.new.self c.in_ok-end.end stands ends) written; numbers = ends.numbers }

pub returns-clause-counts : goal.returns-clause-counts
returns-clause-counts g c = λ known k read old all stands. (read, all, (c.in_ok-end.ensures k (reverse read) stands.fits).counts)
