use Rattle.std.proofs.Common.{◌≡◌, ap, sym, ◌∙◌, Ok, Err, subst}
use Rattle.wsm_record.specs.Event.{event_of}
use Rattle.wsm_admission.specs.Clock.{least}
use Rattle.wsm_admission.specs.Admission.{IsInRange, answer, decision, marks_with}
use Rattle.wsm_admission.proofs.FittedHistory.{Fits-kept, answer-fits, may_take, range_kept}
use Rattle.wsm_admission.proofs.admission.Admission.decide_judged.Goals as goal

pub take-requires : goal.take-requires
take-requires c = may_take c.args.shape.now c.args.schema.now c.args.self.now (event_of c.args.event.now) (sym c.refusal.ensures ∙ c.in-None.is)

pub returns-in-None : goal.returns-in-None
returns-in-None c =
    let s = c.args.self.now in
    let e = event_of c.args.event.now in
    let taken : Ok c.take.result ≡ decision c.args.shape.now c.args.schema.now s e =
    c.take.ensures.answer ∙ ap (answer s.mark (least (marks_with s.marks e)) e) (sym c.in-None.is ∙ c.refusal.ensures) in
    record {
      decision = taken;
      state = c.take.ensures.state;
      range = range_kept c.args.shape.now c.args.schema.now s c.take.new.self e (Ok c.take.result) taken c.take.ensures.state (subst IsInRange c.self.view_is c.self.invariant);
      verdict = λ past h. taken ∙ answer-fits c.args.shape.now c.args.schema.now s past h e;
      fits = λ past h. Fits-kept c.args.shape.now c.args.schema.now s past h c.take.new.self e (Ok c.take.result) taken c.take.ensures.state;
    }

pub returns-in-Some : goal.returns-in-Some
returns-in-Some c =
    let s = c.args.self.now in
    let e = event_of c.args.event.now in
    let told : Err c.in-Some.refusal ≡ decision c.args.shape.now c.args.schema.now s e =
    ap (answer s.mark (least (marks_with s.marks e)) e) (sym c.in-Some.is ∙ c.refusal.ensures) in
    record {
      decision = told;
      state = c.count.ensures e;
      range = range_kept c.args.shape.now c.args.schema.now s c.count.new.self e (Err c.in-Some.refusal) told (c.count.ensures e) (subst IsInRange c.self.view_is c.self.invariant);
      verdict = λ past h. told ∙ answer-fits c.args.shape.now c.args.schema.now s past h e;
      fits = λ past h. Fits-kept c.args.shape.now c.args.schema.now s past h c.count.new.self e (Err c.in-Some.refusal) told (c.count.ensures e);
    }
