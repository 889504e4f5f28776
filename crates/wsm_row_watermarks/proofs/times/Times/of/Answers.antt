use Rattle.std.proofs.Common.{sym, subst}
use Rattle.wsm_admission.specs.Clock.{IsTimely, IsWithinLimits}
use Rattle.wsm_program.specs.Program.{Header}
use Rattle.wsm_row_watermarks.proofs.HeaderTimes.{clock_timely, clock_within}
use Rattle.wsm_row_watermarks.proofs.times.Times.of.Goals as goal

pub invariant_of-result : goal.invariant_of-result
invariant_of-result c =
    let p = c.program.result.now in
    let is = sym c.header-header.ensures.header in record {
      within = subst (λ (h : Header). IsWithinLimits h.clock) is (clock_within p c.header-header.ensures.lawful);
      timely = subst (λ (h : Header). IsTimely h.clock.from_window h.shape) is (clock_timely p c.header-header.ensures.lawful);
    }
