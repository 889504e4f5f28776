use Rattle.std.proofs.Common.{rules, List, ℕ, refl}
use Rattle.std.proofs.lemmas.Result.{err_from_is_err_and}
use Rattle.std.specs.Io.KnownBytes.{Appends}
use Rattle.wsm_csv.proofs.Written.{Keeps-Appends, TakesPart-all}
use Rattle.wsm_inputs.specs.Verdict.{report}
use Rattle.wsm_inputs.proofs.Unwritten.{Keeps-same}
use Rattle.wsm_inputs.proofs.judging.write_report.Goals as goal

-- a flush that fails keeps what was written, and that is all
pub returns-in_err-flush-clause-stops : goal.returns-in_err-flush-clause-stops
returns-in_err-flush-clause-stops g c =
    let p = err_from_is_err_and c.from_residual-in_err-flush.result c.from_residual-in_err-flush.ensures.1 in
    let taken = g.D.Device.taken in
    let text : List ℕ = report c.args.explain c.args.costed in
    let written : Appends (taken c.args.out.now) (taken c.write_out.new.device) text = search rules in
    rw (p.1, p.2) (c.args.costed, refl, TakesPart-all _ _ text (Keeps-Appends _ _ _ text written c.in_err-flush.ensures.kept))

pub returns-clause-reports : goal.returns-clause-reports
returns-clause-reports g c =
    let taken = g.D.Device.taken in
    let text : List ℕ = report c.args.explain c.args.costed in
    let written : Appends (taken c.args.out.now) (taken c.write_out.new.device) text = search rules in
    record {
      program = c.args.costed;
      read_as = refl;
      written = Keeps-Appends _ _ _ text written c.in_ok-flush.ensures.kept;
      tells = c.in_ok-accepted.ensures.accepted;
    }

-- nothing is written where the listing wants memory
pub returns-in_err-text-clause-stops : goal.returns-in_err-text-clause-stops
returns-in_err-text-clause-stops g c =
    let p = err_from_is_err_and c.from_residual.result c.from_residual.ensures.1 in
    rw (p.1, p.2) (Keeps-same (g.D.Device.taken c.args.out.now))
