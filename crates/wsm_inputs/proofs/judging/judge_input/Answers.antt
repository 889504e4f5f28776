use Rattle.std.proofs.Common.{ℕ, Bool, List, Option, Result, sym, subst}
use Rattle.std.specs.Prelude.{◌≢◌, IfErr, IfOk}
use Rattle.std.proofs.lemmas.Result.{err_from_is_err_and}
use Rattle.wsm_program.specs.Program.{Program}
use Rattle.wsm_inputs.specs.declared.end.InputRefusal.{InputRefusal}
use Rattle.wsm_inputs.specs.declared.end.End.{End}
use Rattle.wsm_inputs.specs.declared.end.End.TheVariants.{Refused, Rejected, Memory, ReadFailed, WriteFailed}
use Rattle.wsm_inputs.specs.Judged.{EndsBy}
use Rattle.wsm_inputs.specs.Inputs.{judged}
use Rattle.wsm_inputs.specs.Verdict.{Reports, StopsBy}
use Rattle.wsm_inputs.proofs.Unwritten.{Keeps-same}
use Rattle.wsm_inputs.proofs.judging.judge_input.Goals as goal

-- nothing is written of what has no program
stops_by : (read : Result Program InputRefusal) (explain : Bool) (e : End) (known : Option (List ℕ)) → EndsBy read e → StopsBy read explain known known e
stops_by read explain (Refused why) known ends = (ends, Keeps-same known)
stops_by read explain (Rejected why) known ends = absurd ends
stops_by read explain Memory known ends = Keeps-same known
stops_by read explain ReadFailed known ends = absurd ends
stops_by read explain WriteFailed known ends = absurd ends

not_failed : {A : Type 0} (read : Result A InputRefusal) (e : End) → EndsBy read e → e ≢ WriteFailed
not_failed read (Refused why) ends = λ h. cc
not_failed read (Rejected why) ends = absurd ends
not_failed read Memory ends = λ h. cc
not_failed read ReadFailed ends = absurd ends
not_failed read WriteFailed ends = absurd ends

pub returns-in_err-costed : goal.returns-in_err-costed
returns-in_err-costed g c =
    let e = err_from_is_err_and c.from_residual.result c.from_residual.ensures.1 in
    let taken = g.D.Device.taken c.args.out.now in
    rw (e.1, e.2) (record {
      reports = tt;
      stops = stops_by (judged c.args.input) c.args.explain c.in_err-costed.field-0.0 taken c.in_err-costed.ensures.refused;
      flushed = tt;
      write_failed = λ h. absurd (not_failed (judged c.args.input) c.in_err-costed.field-0.0 c.in_err-costed.ensures.refused (cc));
      memory_apart = c.in_err-costed.ensures.memory_apart;
    })

pub returns : goal.returns
returns g c =
    let old = g.D.Device.taken c.args.out.now in
    let new = g.D.Device.taken c.write_report.new.out in
    let read = sym c.in_ok-costed.ensures.read in
    record {
      reports = subst (λ r. IfOk c.write_report.result (Reports r c.args.explain old new)) read c.write_report.ensures.reports;
      stops = subst (λ r. IfErr c.write_report.result (StopsBy r c.args.explain old new)) read c.write_report.ensures.stops;
      flushed = c.write_report.ensures.flushed;
      write_failed = c.write_report.ensures.write_failed;
      memory_apart = c.write_report.ensures.memory_apart;
    }
