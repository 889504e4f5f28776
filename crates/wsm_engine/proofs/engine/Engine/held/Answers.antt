use Rattle.std.proofs.Common.{length, ap, arith}
use Rattle.wsm_rules.specs.Costs.{needed}
use Rattle.wsm_engine.specs.State.{State}
use Rattle.wsm_engine.specs.Engine.{state_of}
use Rattle.wsm_engine.proofs.Limits.{panes_stated}
use Rattle.wsm_engine.proofs.HeldByHistory.{kept_within}
use Rattle.wsm_engine.proofs.engine.Engine.held.Goals as goal

pub returns-clause-within : goal.returns-clause-within
returns-clause-within c =
    let s : State = state_of c.self.inside in
    let of = c.self.invariant.operator in
    let history = c.self.invariant.history in
    let few = kept_within s.program (needed s.program) of.judged of.lawful history.0 in
    let most = panes_stated s.program (needed s.program) of.judged in
    rw (← c.self.view_is) (omega (arith, few, most, c.len.ensures, ap length history.1.panes))
