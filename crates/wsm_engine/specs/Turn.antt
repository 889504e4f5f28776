-- What an event does to an engine: the step of the machine that keeps a summary for each held pane. A
-- relation is kept where changes against it are written.
use Rattle.std.specs.Prelude.{Bool, false, List, map, length, sum, Option, Some, None, Result, Ok, Err}
use Rattle.wsm_record.specs.declared.event.Value.{Value}
use Rattle.wsm_record.specs.Event.{Event, Record}
use Rattle.wsm_admission.specs.declared.verdict.Admitted.{Admitted}
use Rattle.wsm_admission.specs.declared.verdict.Admitted.TheVariants as admitted
use Rattle.wsm_admission.specs.declared.verdict.Refusal.{Refusal}
use Rattle.wsm_semantics.specs.Steps as steps
use Rattle.wsm_semantics.specs.Steps.{answer_to, step, step_fires, step_rows}
use Rattle.wsm_program.specs.Program.{Program}
use Rattle.wsm_machine.specs.Meaning.{query_of, plan_of, selects, step_cost, pane_cost_by}
use Rattle.wsm_firing.specs.Tally.{greatest}
use Rattle.wsm_firing.specs.Streams.{relation_kept}
use Rattle.wsm_engine.specs.declared.reply.Reply.{Reply}
use Rattle.wsm_engine.specs.State.{State}

-- what is kept of the events after one more
abbrev pub machine_after : Program → steps.State (List Value) → Event → steps.State (List Value)
machine_after p s e = let after = step (plan_of p) (query_of p) s e in record after { relation = relation_kept p.header.form s.relation after.relation }

abbrev pub turn : State → Event → State
turn s e = record s { machine = machine_after s.program s.machine e; rows = step_rows (plan_of s.program) (query_of s.program) s.machine e }

-- the refusal of an answer, if it is one
abbrev pub refusal_of : Result Admitted Refusal → Option Refusal
refusal_of (Ok a) = None
refusal_of (Err r) = Some r

-- a record that is taken, where WHERE selects it
abbrev pub selected_by : Program → Result Admitted Refusal → Event → Bool
selected_by p (Ok admitted.Record) (Record (Some key) time values) = selects p key values
selected_by p answer e = false

-- the reply to an event, by what is kept
abbrev pub reply_by : State → Event → Reply
reply_by s e = let fs = step_fires (plan_of s.program) (query_of s.program) s.machine e in let costs = map (pane_cost_by s.program) fs in record {
  refusal = refusal_of (answer_to (plan_of s.program) (query_of s.program) s.machine e);
  selected = selected_by s.program (answer_to (plan_of s.program) (query_of s.program) s.machine e) e;
  record_steps = step_cost s.program s.machine e;
  fired = length fs;
  pane_steps_max = greatest costs;
  pane_steps_total = sum costs;
}
