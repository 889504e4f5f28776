use Rattle.std.proofs.Common.{[], subst, sym}
use Rattle.wsm_keyed_intake.specs.GoesOn.{GoesOn}
use Rattle.wsm_keyed_intake.specs.Saved.{Saved}
use Rattle.wsm_live_run.proofs.KeyedLemmas.{are_named}
use Rattle.wsm_live_run.proofs.SavedLemmas.{some_then}
use Rattle.wsm_live_run.proofs.keyed_log_lines.KeyedLogLinesLineTaker.resume.Goals as goal

pub resume-requires-clause-named : goal.resume-requires-clause-named
resume-requires-clause-named c = are_named c.args.self.clocks c.args.self.are_named

pub returns-in-Some : goal.returns-in-Some
returns-in-Some c = λ g before was says.
    let own = record g { clocks = c.args.self.clocks } in
    let none = subst (λ k. GoesOn (record g { clocks = k }) c.args.self.intake []) (sym was.clocks) was.goes_on in
    let saved = subst (λ k. Saved (record g { clocks = k }) before c.args.text.now) (sym was.clocks) says.saved in
    let behind = some_then _ c.in-Some.intake (λ t. GoesOn own t before) c.in-Some.is (c.in_ok-intake.ensures g before none saved) in
    record {
      clocks = was.clocks;
      goes_on = subst (λ k. GoesOn (record g { clocks = k }) c.in-Some.intake before) was.clocks behind;
      turns = says.turns;
    }
