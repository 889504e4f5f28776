use Rattle.std.proofs.Common.{[], ℕ, List, Option}
use Rattle.std.proofs.lemmas.Result.{err_from_is_err_and}
use Rattle.wsm_csv.proofs.Written.{Appends-start}
use Rattle.wsm_log_rows.specs.declared.end.LogEnd.TheVariants.{Memory}
use Rattle.wsm_log_rows.proofs.Reading.{AreFirst-none}
use Rattle.wsm_keyed_intake.specs.KeyedLog.{KeyedLog}
use Rattle.wsm_keyed_intake.specs.Run.{KeyedLogBroken}
use Rattle.wsm_keyed_intake.proofs.run.run_parts.Goals as goal

-- nothing was read or written, for want of memory
nothing : (known : Option (List ℕ)) (k : KeyedLog) (old : Option (List ℕ)) → KeyedLogBroken known k old old Memory
nothing known k old = ([], record { first = AreFirst-none k.source.longest known; text = Appends-start old })

pub returns-in_err-intake-clause-ends_early : goal.returns-in_err-intake-clause-ends_early
returns-in_err-intake-clause-ends_early g c =
    let e = err_from_is_err_and c.from_residual.result c.from_residual.ensures.1 in
    rw (e.1, e.2) (nothing (g.R.Read.remaining c.args.reader) _ (g.D.Device.taken c.args.out.now))

pub returns-in_err-lines-clause-ends_early : goal.returns-in_err-lines-clause-ends_early
returns-in_err-lines-clause-ends_early g c =
    let e = err_from_is_err_and c.from_residual-in_err-lines.result c.from_residual-in_err-lines.ensures.1 in
    rw (e.1, e.2) (nothing (g.R.Read.remaining c.args.reader) _ (g.D.Device.taken c.args.out.now))

pub returns-clause-completes : goal.returns-clause-completes
returns-clause-completes g c = c.in_ok-log.ensures.completes (g.R.Read.remaining c.args.reader) _ c.in_ok-lines.ensures c.in_ok-intake.ensures.fits

pub returns-clause-counts : goal.returns-clause-counts
returns-clause-counts g c = c.in_ok-log.ensures.counts (g.R.Read.remaining c.args.reader) _ c.in_ok-lines.ensures c.in_ok-intake.ensures.fits
