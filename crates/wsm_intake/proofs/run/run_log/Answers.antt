use Rattle.std.proofs.Common.{[], ℕ, List, Option}
use Rattle.std.proofs.lemmas.Result.{err_from_is_err_and}
use Rattle.wsm_csv.proofs.Written.{Appends-start}
use Rattle.wsm_turns.specs.declared.clocks.Clocks.{Clocks}
use Rattle.wsm_semantics.specs.Query.{Query}
use Rattle.wsm_machine.specs.Meaning.{query_of}
use Rattle.wsm_lines.specs.declared.source.Source.{Source}
use Rattle.wsm_log_rows.specs.declared.end.LogEnd.TheVariants.{Memory}
use Rattle.wsm_intake.specs.Run.{LogBroken}
use Rattle.wsm_log_rows.proofs.Reading.{AreFirst-none}
use Rattle.wsm_intake.proofs.run.run_log.Goals as goal

-- nothing was read or written, for want of memory
nothing : (known : Option (List ℕ)) (s : Source) (clocks : Option Clocks) (old : Option (List ℕ)) (q : Query) → LogBroken known s clocks old old q Memory
nothing known s clocks old q = ([], record { first = AreFirst-none s.longest known; text = Appends-start old })

pub returns-in_err-intake-clause-ends_early : goal.returns-in_err-intake-clause-ends_early
returns-in_err-intake-clause-ends_early g c =
    let e = err_from_is_err_and c.from_residual.result c.from_residual.ensures.1 in
    rw (e.1, e.2) (nothing (g.R.Read.remaining c.args.reader) c.args.source c.args.clocks (g.D.Device.taken c.args.out.now) (query_of c.args.verified))

pub returns-in_err-lines-clause-ends_early : goal.returns-in_err-lines-clause-ends_early
returns-in_err-lines-clause-ends_early g c =
    let e = err_from_is_err_and c.from_residual-in_err-lines.result c.from_residual-in_err-lines.ensures.1 in
    rw (e.1, e.2) (nothing (g.R.Read.remaining c.args.reader) c.args.source c.args.clocks (g.D.Device.taken c.args.out.now) (query_of c.args.verified))

pub returns-clause-completes : goal.returns-clause-completes
returns-clause-completes g c =
    c.take_log.ensures.completes (g.R.Read.remaining c.args.reader) c.args.source c.args.clocks c.args.verified c.in_ok-lines.ensures c.in_ok-intake.ensures.fits

pub returns-clause-ends_early : goal.returns-clause-ends_early
returns-clause-ends_early g c =
    c.take_log.ensures.ends_early (g.R.Read.remaining c.args.reader) c.args.source c.args.clocks c.args.verified c.in_ok-lines.ensures c.in_ok-intake.ensures.fits

pub returns-clause-counts : goal.returns-clause-counts
returns-clause-counts g c =
    c.take_log.ensures.counts (g.R.Read.remaining c.args.reader) c.args.source c.args.clocks c.args.verified c.in_ok-lines.ensures c.in_ok-intake.ensures.fits
