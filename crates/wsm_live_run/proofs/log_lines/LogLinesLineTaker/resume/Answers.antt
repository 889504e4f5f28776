use Rattle.std.proofs.Common.{[], subst, sym}
use Rattle.wsm_intake.specs.GoesOn.{GoesOn}
use Rattle.wsm_intake.specs.Saved.{Saved}
use Rattle.wsm_live_run.proofs.SavedLemmas.{some_then}
use Rattle.wsm_live_run.proofs.log_lines.LogLinesLineTaker.resume.Goals as goal

pub returns-in-Some : goal.returns-in-Some
returns-in-Some c = λ by before was says.
    let own = c.args.self.clocks in
    let none = subst (λ k. GoesOn by.source k by.program c.args.self.intake []) (sym was.clocks) was.goes_on in
    let saved = subst (λ k. Saved by.source k by.program before c.args.text.now) (sym was.clocks) says in
    let behind = some_then _ c.in-Some.intake (λ t. GoesOn by.source own by.program t before) c.in-Some.is (c.in_ok-intake.ensures by.source by.program before none saved) in
    record { clocks = was.clocks; goes_on = subst (λ k. GoesOn by.source k by.program c.in-Some.intake before) was.clocks behind }
