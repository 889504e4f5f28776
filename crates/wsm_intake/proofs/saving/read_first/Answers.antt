use Rattle.std.proofs.Common.{[]}
use Rattle.wsm_log_text.proofs.FirstLines.{fault_alone}
use Rattle.wsm_intake.proofs.saving.read_first.Goals as goal

pub returns-in-Ok : goal.returns-in-Ok
returns-in-Ok c = λ s follows. c.in-Ok.ensures.follows s [] follows (λ h. cc)

pub returns-in-Err-Fault : goal.returns-in-Err-Fault
returns-in-Err-Fault c = λ s follows. (rw c.in-Err-Fault.field-0-is at c.in-Err-Fault.ensures.follows s [] follows) (λ h. fault_alone c.in-Err-Fault.field-0-0 h)
