-- An engine that takes the turn of an event takes the event.
use Rattle.std.proofs.Common.{◌≡◌, List, Ok, IsTrue, ap, ◌∙◌}
use Rattle.wsm_record.specs.Event.{Event}
use Rattle.wsm_program.specs.Program.{is_program}
use Rattle.wsm_rules.specs.Costs.{needed}
use Rattle.wsm_rules.specs.Rules.{judge}
use Rattle.wsm_machine.proofs.Costs.{step_cost_within}
use Rattle.wsm_engine.specs.State.{State}
use Rattle.wsm_engine.specs.Meaning.{Feeds, Fits}
use Rattle.wsm_engine.specs.Turn.{turn, reply_by}
use Rattle.wsm_engine.specs.declared.reply.Reply.{Reply}
use Rattle.wsm_engine.proofs.EngineTurns.{turn_fits, turn_writes, turn_replies, refused_turn, fired_few}
use Rattle.wsm_engine.proofs.Within.{firings_within}

pub feeds_by_turn : (s new : State) (e : Event) (reply : Reply) → judge s.program ≡ Ok (needed s.program) → IsTrue (is_program s.program) → (past : List Event) → Fits s past →
    new ≡ turn s e → reply ≡ reply_by s e → Feeds s new e reply
feeds_by_turn s new e reply judged lawful before fits_before state replied = record {
  program = ap (λ (t : State). t.program) state;
  fits = λ past fits. rw state (turn_fits s lawful past fits e);
  reply = λ past fits. replied ∙ turn_replies s lawful past fits e;
  rows = λ past fits. ap (λ (t : State). t.rows) state ∙ turn_writes s lawful past fits e;
  room = ap (λ (t : State). t.room) state;
  admission = ap (λ (t : State). t.machine.admission) state;
  refused = rw (state, replied) (refused_turn s (fired_few s before fits_before) e);
  record_within = rw replied (step_cost_within s.program (needed s.program) judged lawful s.machine e);
  pane_within = rw replied (firings_within s (needed s.program) judged lawful before fits_before e);
}
