use Rattle.std.proofs.Common.{◌≡◌, ◌+◌, ℕ, ◌∷◌, length, Result, SFits, w64, to_z, of_z, to_z-of_z, refl, sym, ap, subst, ◌∙◌, arith}
use Rattle.std.proofs.lemmas.Int.{ints, fits_signed_from_abs}
use Rattle.wsm_record.specs.Event.{Event, event_of}
use Rattle.wsm_admission.specs.declared.verdict.Admitted.{Admitted}
use Rattle.wsm_admission.specs.declared.verdict.Refusal.{Refusal}
use Rattle.wsm_admission.specs.declared.clock.Clock.{Clock}
use Rattle.wsm_admission.specs.Clock.{IsTimely}
use Rattle.wsm_admission.specs.Admission.{after, counter, decision}
use Rattle.wsm_semantics.specs.Steps.{answer_to, fired_by}
use Rattle.wsm_program.specs.Program.{Program, Header}
use Rattle.wsm_program.specs.View.{header_of}
use Rattle.wsm_firing.specs.declared.tally.Tally.{Tally}
use Rattle.wsm_machine.specs.Meaning.{query_of, plan_of}
use Rattle.wsm_panes.specs.Held.{entries_of}
use Rattle.wsm_engine.specs.State.{State}
use Rattle.wsm_engine.specs.Counts.{IsKnown}
use Rattle.wsm_engine.specs.Meaning.{Fits}
use Rattle.wsm_engine.specs.Operator.{IsAt, last_relation}
use Rattle.wsm_engine.specs.Engine.{state_of}
use Rattle.wsm_engine.proofs.Limits.{clock_timely}
use Rattle.wsm_engine.proofs.EngineTurns.{turn_fits, turned_is, comes_of, next_timely, replied_is}
use Rattle.wsm_engine.proofs.engine.Engine.turn.Goals as goal
use Rattle.wsm_engine.proofs.engine.Engine.turn.Goals.{After-decide-answer, After-act-done}

-- the answer is the definition's
answered : (c : After-decide-answer) → c.decide-answer.result ≡ answer_to (plan_of (state_of c.self.inside).program) (query_of (state_of c.self.inside).program) (state_of c.self.inside).machine (event_of c.args.event.now)
answered c =
    c.decide-answer.ensures.decision
    ∙ ap (λ (h : Header). decision h.shape h.schema (state_of c.self.inside).machine.admission (event_of c.args.event.now)) (c.header-header.ensures.header ∙ ap (λ (p : Program). p.header) c.program.ensures.program)

-- lateness may be counted from the program's windows, where its clock does
pub decide-answer-requires-clause-timely : goal.decide-answer-requires-clause-timely
decide-answer-requires-clause-timely c =
    let s : State = state_of c.self.inside in
    let is : header_of c.header-header.result.now ≡ s.program.header = c.header-header.ensures.header ∙ ap (λ (p : Program). p.header) c.program.ensures.program in
    let timely = subst (λ (h : Header). IsTimely s.program.header.clock.from_window h.shape) (sym is) (clock_timely s.program c.self.invariant.operator.lawful) in
    subst (λ (k : Clock). IsTimely k.from_window c.header-header.result.now.shape) (sym c.self.invariant.history.1.clock) timely

-- what is known is so by the program's declarations
pub decide-answer-requires-clause-known : goal.decide-answer-requires-clause-known
decide-answer-requires-clause-known c =
    let s : State = state_of c.self.inside in
    let e : Event = event_of c.args.event.now in
    let is : header_of c.header-header.result.now ≡ s.program.header = c.header-header.ensures.header ∙ ap (λ (p : Program). p.header) c.program.ensures.program in
    subst (λ (h : Header). IsKnown h.shape h.schema s.machine.admission e c.args.known) (sym is)
    (subst (λ (t : State). IsKnown t.program.header.shape t.program.header.schema t.machine.admission e c.args.known) (sym c.self.view_is) c.requires)

-- the operator is at the mark, once the rows of the last turn are gone
marked : (c : After-act-done) → IsAt (to_z w64 (of_z w64 c.mark-mark.result)) (record c.self.inside.operator { state = record c.self.inside.operator.state { rows = c.clear.new.self } }) (state_of c.self.inside).machine
marked c =
    let mark : SFits w64 c.mark-mark.result = fits_signed_from_abs w64 c.mark-mark.result (grind (arith, ints, c.mark-mark.ensures.from, c.mark-mark.ensures.to)) in
    record { marked = sym (to_z-of_z mark ∙ c.mark-mark.ensures.mark); panes = refl; relation = refl }

pub act-done-requires-clause-comes : goal.act-done-requires-clause-comes
act-done-requires-clause-comes c =
    let history = c.self.invariant.history in
    let mark : SFits w64 c.mark-mark.result = fits_signed_from_abs w64 c.mark-mark.result (grind (arith, ints, c.mark-mark.ensures.from, c.mark-mark.ensures.to)) in
    let answered = answered (goal.at.act-done-requires-clause-comes c).After-decide-answer in
    let s : State = state_of c.self.inside in
    let e : Event = event_of c.args.event.now in
    let next = next_timely s c.self.invariant.operator.lawful history.0 history.1 e c.decide-answer.new.self (c.decide-answer.ensures.state ∙ ap (λ (a : Result Admitted Refusal). after a e s.machine.admission) answered) c.decide-answer.ensures.range in
    (history.0, simp to_z-of_z (comes_of s history.0 history.1 c.self.inside.operator.state.held refl c.mark-mark.result c.mark-mark.ensures.mark (record { low = c.mark-mark.ensures.from; high = c.mark-mark.ensures.to }) c.decide-answer.result e next answered))

pub invariant_of-self : goal.invariant_of-self
invariant_of-self c =
    let s : State = state_of c.self.inside in
    let e : Event = event_of c.args.event.now in
    let history = c.self.invariant.history in
    let answered = answered (goal.at.invariant_of-self c).After-decide-answer in
    let here = marked (goal.at.invariant_of-self c).After-act-done in
    let done = c.act-done.ensures in
    let fired : c.act-done.result.tally.fired ≡ length (fired_by (plan_of s.program) (query_of s.program) c.decide-answer.result e s.machine) = ap (λ (t : Tally). t.fired) (done.tally s.machine here) in
    let now = turned_is s e c.decide-answer.result answered c.decide-answer.new.self (entries_of c.act-done.new.operator.state.held) (last_relation c.act-done.new.operator.state.streams (entries_of c.act-done.new.operator.state.held)) c.saturating_add-self-inside.result c.saturating_add-self-inside-2.result c.act-done.new.operator.state.rows.written c.act-done.new.operator.state.rows.room
    c.decide-answer.ensures.state (done.panes s.machine here) (done.relation s.machine here) c.saturating_add-self-inside.ensures (c.saturating_add-self-inside-2.ensures ∙ ap (λ (n : ℕ). counter (s.machine.fired + n)) fired) (done.rows s.machine here) (done.room ∙ c.clear.ensures.room) in
    record {
      operator = done.program;
      history = (e ∷ history.0, subst (λ (t : State). Fits t (e ∷ history.0)) (sym now) (turn_fits s c.self.invariant.operator.lawful history.0 history.1 e));
    }

pub returns-clause-state : goal.returns-clause-state
returns-clause-state c =
    let s : State = state_of c.self.inside in
    let e : Event = event_of c.args.event.now in
    let answered = answered (goal.at.returns-clause-state c).After-decide-answer in
    let here = marked (goal.at.returns-clause-state c).After-act-done in
    let done = c.act-done.ensures in
    let fired : c.act-done.result.tally.fired ≡ length (fired_by (plan_of s.program) (query_of s.program) c.decide-answer.result e s.machine) = ap (λ (t : Tally). t.fired) (done.tally s.machine here) in
    rw (← c.self.view_is) (turned_is s e c.decide-answer.result answered c.decide-answer.new.self (entries_of c.act-done.new.operator.state.held) (last_relation c.act-done.new.operator.state.streams (entries_of c.act-done.new.operator.state.held)) c.saturating_add-self-inside.result c.saturating_add-self-inside-2.result c.act-done.new.operator.state.rows.written c.act-done.new.operator.state.rows.room
    c.decide-answer.ensures.state (done.panes s.machine here) (done.relation s.machine here) c.saturating_add-self-inside.ensures (c.saturating_add-self-inside-2.ensures ∙ ap (λ (n : ℕ). counter (s.machine.fired + n)) fired) (done.rows s.machine here) (done.room ∙ c.clear.ensures.room))

pub returns-clause-reply : goal.returns-clause-reply
returns-clause-reply c =
    let s : State = state_of c.self.inside in
    let e : Event = event_of c.args.event.now in
    let answered = answered (goal.at.returns-clause-reply c).After-decide-answer in
    let here = marked (goal.at.returns-clause-reply c).After-act-done in
    let done = c.act-done.ensures in
    rw (← c.self.view_is) (replied_is s e c.decide-answer.result answered c.refusal_of.result c.act-done.result.selected c.act-done.result.record_steps c.act-done.result.tally c.refusal_of.ensures done.selected (done.cost s.machine here) (done.tally s.machine here))
