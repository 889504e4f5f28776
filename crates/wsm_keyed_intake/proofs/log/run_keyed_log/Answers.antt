use Rattle.std.proofs.Common.{◌≡◌, Option, List, ℕ, Some, None, refl, subst, inl, inr}
use Rattle.std.proofs.lemmas.Result.{err_from_is_err_and}
use Rattle.std.specs.Io.KnownBytes.{Keeps}
use Rattle.wsm_program.specs.Program.{Program}
use Rattle.wsm_log_rows.specs.declared.end.LogEnd.TheVariants.{WriteFailed}
use Rattle.wsm_ends.specs.declared.keyed_log.KeyedLogStop.TheVariants as stops
use Rattle.wsm_keyed_intake.specs.KeyedLog.{KeyedLog}
use Rattle.wsm_keyed_intake.specs.Run.{KeyedLogBroken, KeyedLogCounted, KeyedLogWritten}
use Rattle.wsm_keyed_intake.specs.Stops.{IsUnrun}
use Rattle.wsm_keyed_intake.proofs.log.run_keyed_log.Goals as goal

keeps_same : (known : Option (List ℕ)) → Keeps known known
keeps_same None = tt
keeps_same (Some bytes) = refl

pub returns-in_err-parts-clause-ends_early : goal.returns-in_err-parts-clause-ends_early
returns-in_err-parts-clause-ends_early g c =
    let e = err_from_is_err_and c.from_residual.result c.from_residual.ensures.1 in
    rw (e.1, e.2) (inl (c.in_err-parts.ensures.unrun c.args.names c.args.most, keeps_same (g.D.Device.taken c.args.out.now)))

pub returns-in_err-parts-clause-write_failed : goal.returns-in_err-parts-clause-write_failed
returns-in_err-parts-clause-write_failed g c =
    let e = err_from_is_err_and c.from_residual.result c.from_residual.ensures.1 in
    let k : KeyedLog = record { program = c.args.verified; source = c.args.source; clocks = c.args.clocks; names = c.args.names; most = c.args.most } in
    rw (e.1, e.2) (λ failed.
    let same : c.in_err-parts.field-0.0 ≡ stops.End WriteFailed = cc failed in
    absurd (subst (IsUnrun k) same (c.in_err-parts.ensures.unrun c.args.names c.args.most)))

pub returns-in_err-totals-clause-ends_early : goal.returns-in_err-totals-clause-ends_early
returns-in_err-totals-clause-ends_early g c =
    let e = err_from_is_err_and c.from_residual-in_err-totals.result c.from_residual-in_err-totals.ensures.1 in
    rw (e.1, e.2) (inr (
      c.in_err-totals.field-0.0,
      refl,
      subst (λ (p : Program). KeyedLogBroken (g.R.Read.remaining c.args.reader) (record { program = p; source = c.args.source; clocks = c.args.clocks; names = c.args.names; most = c.args.most }) (g.D.Device.taken c.args.out.now) (g.D.Device.taken c.run_parts.new.out) c.in_err-totals.field-0.0)
          c.in_ok-parts.ensures.program c.in_err-totals.ensures.ends_early,
    ))

pub returns-clause-completes : goal.returns-clause-completes
returns-clause-completes g c =
    subst (λ (p : Program). KeyedLogWritten (g.R.Read.remaining c.args.reader) (record { program = p; source = c.args.source; clocks = c.args.clocks; names = c.args.names; most = c.args.most }) (g.D.Device.taken c.args.out.now) (g.D.Device.taken c.run_parts.new.out) c.in_ok-totals.totals.log.totals)
    c.in_ok-parts.ensures.program c.in_ok-totals.ensures.completes

pub returns-clause-counts : goal.returns-clause-counts
returns-clause-counts g c =
    subst (λ (p : Program). KeyedLogCounted (g.R.Read.remaining c.args.reader) (record { program = p; source = c.args.source; clocks = c.args.clocks; names = c.args.names; most = c.args.most }) c.in_ok-totals.totals.log.counts)
    c.in_ok-parts.ensures.program c.in_ok-totals.ensures.counts
