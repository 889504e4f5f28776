use Rattle.std.proofs.Common.{[], ℕ, Bool, List, Option}
use Rattle.std.proofs.lemmas.Result.{err_from_is_err_and}
use Rattle.wsm_csv.proofs.Written.{Appends-start}
use Rattle.wsm_log_rows.proofs.Reading.{AreFirst-none}
use Rattle.wsm_log_rows.specs.declared.end.LogEnd.TheVariants.{Memory}
use Rattle.wsm_turns.specs.Turns.{Setting}
use Rattle.wsm_row_watermarks.specs.declared.text.TheConstants.{LONGEST}
use Rattle.wsm_row_watermarks.specs.Run.{IsBroken, setting_by}
use Rattle.wsm_row_watermarks.proofs.write.write_watermarks.Goals as goal

-- nothing was read or written, for want of memory
nothing : (known : Option (List ℕ)) (w : Setting) (once : Option ℕ) (last : Bool) (old : Option (List ℕ)) → IsBroken known w once last old old Memory
nothing known w once last old = ([], record { first = AreFirst-none LONGEST known; text = Appends-start old })

pub returns-in_err-lines-clause-broken : goal.returns-in_err-lines-clause-broken
returns-in_err-lines-clause-broken g c =
    let e = err_from_is_err_and c.from_residual.result c.from_residual.ensures.1 in
    rw (e.1, e.2) (nothing (g.R.Read.remaining c.args.reader) (setting_by c.args.rules) c.args.rules.once c.args.rules.last (g.D.Device.taken c.args.out.now))

pub returns-in_err-turns-clause-broken : goal.returns-in_err-turns-clause-broken
returns-in_err-turns-clause-broken g c =
    let e = err_from_is_err_and c.from_residual-in_err-turns.result c.from_residual-in_err-turns.ensures.1 in
    rw (e.1, e.2) (nothing (g.R.Read.remaining c.args.reader) (setting_by c.args.rules) c.args.rules.once c.args.rules.last (g.D.Device.taken c.args.out.now))

pub returns-clause-written : goal.returns-clause-written
returns-clause-written g c =
    c.write_rows.ensures.written (g.R.Read.remaining c.args.reader) (setting_by c.args.rules) c.args.rules.once c.in_ok-lines.ensures c.in_ok-turns.ensures

pub returns-clause-broken : goal.returns-clause-broken
returns-clause-broken g c =
    c.write_rows.ensures.broken (g.R.Read.remaining c.args.reader) (setting_by c.args.rules) c.args.rules.once c.in_ok-lines.ensures c.in_ok-turns.ensures
