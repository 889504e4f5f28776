use Rattle.std.proofs.Common.{◌≡◌, sym, subst, ◌∙◌}
use Rattle.wsm_record.specs.Event.{event_of}
use Rattle.wsm_admission.specs.Admission.{State, decision}
use Rattle.wsm_engine.proofs.Counts.{stands}
use Rattle.wsm_engine.proofs.deciding.Decider.decide_judged.Goals as goal

pub returns-clause-decision : goal.returns-clause-decision
returns-clause-decision c =
    let a = c.self.inside in
    let e = event_of c.args.event.now in
    subst (λ (s : State). c.decide_judged-answer.result ≡ decision c.args.shape.now c.args.schema.now s e) c.self.view_is
    (stands c.args.shape.now c.args.schema.now a.admission a.handed a.limited e a.limit c.admitted.result c.decide_judged-answer.result c.self.invariant.limit c.admitted.ensures c.decide_judged-answer.ensures.decision
    (sym c.if-is_over.false ∙ c.is_over.ensures))
