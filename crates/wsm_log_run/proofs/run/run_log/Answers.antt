use Rattle.std.proofs.Common.{◌≡◌, ◌∙◌, ℕ, Bool, List, Option, Result, Ok, Err, refl, ap, true, false}
use Rattle.std.specs.Prelude.{IfErr, IfOk, OnOk}
use Rattle.wsm_turns.specs.declared.clocks.Clocks.{Clocks}
use Rattle.wsm_semantics.specs.Query.{Query}
use Rattle.wsm_semantics.specs.declared.ending.Totals.{Totals}
use Rattle.wsm_lines.specs.declared.source.Source.{Source}
use Rattle.wsm_log_rows.specs.declared.end.LogEnd.{LogEnd}
use Rattle.wsm_log_rows.specs.declared.end.LogEnd.TheVariants as log
use Rattle.wsm_intake.specs.Run.{LogBroken, LogWritten}
use Rattle.wsm_inputs.specs.declared.end.End.{End}
use Rattle.wsm_inputs.specs.declared.end.End.TheVariants.{WriteFailed}
use Rattle.wsm_inputs.specs.Ends.{hides_memory}
use Rattle.wsm_inputs.specs.Inputs.{EndsAs, IsAccepted}
use Rattle.wsm_inputs.specs.declared.input.Input.{Input}
use Rattle.wsm_ends.specs.Ends.{end_of_log}
use Rattle.wsm_log_run.specs.Logs.{LogStops}
use Rattle.wsm_inputs.proofs.RunsBeforeRows.{begun}
use Rattle.wsm_log_run.proofs.SameLog.{log_broken, log_written}
use Rattle.wsm_program.specs.Program.{Program}
use Rattle.wsm_machine.specs.Meaning.{query_of}
use Rattle.wsm_log_run.proofs.run.run_log.Goals as goal

apart : (e : LogEnd) → hides_memory (end_of_log e) ≡ false
apart log.Memory = refl
apart log.ReadFailed = refl
apart log.WriteFailed = refl

only_failed : (e : LogEnd) → end_of_log e ≡ WriteFailed → e ≡ log.WriteFailed
only_failed log.Memory h = cc
only_failed log.ReadFailed h = cc
only_failed log.WriteFailed h = refl

same_end : (x y : End) (r : Result Totals End) → r ≡ Err x → r ≡ Err y → x ≡ y
same_end x y r h k = cc

well_ended : (t : Totals) (y : End) (r : Result Totals End) → r ≡ Ok t → r ≡ Err y → ⊥
well_ended t y r h k = cc

-- what is said of a run of the accepted program holds of a run of the input
module _ (i : Input) (p : Program) (accepted : IsAccepted i p) (known : Option (List ℕ)) (s : Source) (clocks : Option Clocks) (old new : Option (List ℕ)) (flushed failed : Bool) where
  ended : (result : Result Totals End) → IfOk result (LogWritten known s clocks old new (query_of p)) → IfErr result (LogStops known s clocks old new (query_of p)) →
      OnOk result (flushed ≡ true) → (result ≡ Err WriteFailed → failed ≡ true) → IfErr result (λ end. hides_memory end ≡ false) →
      EndsAs i (LogWritten known s clocks old new) (LogStops known s clocks old new) old new flushed failed result
  ended result well breaks leaves fails told =
      begun i (LogWritten known s clocks old new) (LogStops known s clocks old new)
      (λ text q a totals h. log_written text q a known s clocks old new totals h)
      (λ text q a end h. (h.0, h.1, log_broken text q a known s clocks old new h.0 h.2))
      p accepted old new flushed failed result well breaks leaves fails told

pub returns-in-Err-clause-ends : goal.returns-in-Err-clause-ends
returns-in-Err-clause-ends g c =
    let old = g.D.Device.taken c.args.out.now in
    let new = g.D.Device.taken c.run_log.new.out in
    let known = g.R.Read.remaining c.args.reader in
    let s = c.args.source in
    let why = c.in-Err.end in
    let failed : why ≡ log.WriteFailed → g.D.Device.has_failed c.run_log.new.out ≡ true = λ h. c.run_log.ensures.write_failed (c.in-Err.is ∙ ap Err h) in
    rw c.end_of_log.ensures (λ input accepted. ended input c.args.verified accepted known s c.args.clocks old new (g.D.Device.is_flushed c.run_log.new.out) (g.D.Device.has_failed c.run_log.new.out) (Err (end_of_log why))
    tt (why, refl, c.in-Err.ensures.ends_early) tt (λ h. failed (only_failed why (same_end (end_of_log why) WriteFailed (Err (end_of_log why)) refl h))) (apart why))

pub returns-in-Ok-clause-ends : goal.returns-in-Ok-clause-ends
returns-in-Ok-clause-ends g c = λ input accepted.
    let old = g.D.Device.taken c.args.out.now in
    let new = g.D.Device.taken c.run_log.new.out in
    let known = g.R.Read.remaining c.args.reader in
    ended input c.args.verified accepted known c.args.source c.args.clocks old new (g.D.Device.is_flushed c.run_log.new.out) (g.D.Device.has_failed c.run_log.new.out) (Ok c.in-Ok.totals.totals)
    c.in-Ok.ensures.completes tt c.in-Ok.ensures.flushed (λ h. absurd (well_ended c.in-Ok.totals.totals WriteFailed (Ok c.in-Ok.totals.totals) refl h)) tt
